-- Rows that give a line or its words back, call by call.
use Rattle.std.proofs.Common.{◌≡◌, ℕ, true, false, cond, refl, sym, ap, ◌∙◌}
use Rattle.line_map.specs.Sizes.{home_of}
use Rattle.op_model.specs.declared.state.Wait.TheVariants.{Idle}
use Rattle.op_model.specs.Nodes.{Nodes, none, only, unlist}
use Rattle.op_model.specs.Operations.{Words}
use Rattle.op_model.specs.Lines.{Header, LineShare, Outcome, is_idle}
use Rattle.op_model.specs.Tables.Home.{on_wb, on_shwb, on_fack, on_nakc, requester_of}
use Rattle.op_model.specs.Shares.{Copies}
use Rattle.cpu_cache.specs.Processors.{ProcView}
use Rattle.dir_header.specs.HomeSides.{HomeView, header_at, with_header, relisted, unlisted}
use Rattle.node_share.specs.Parts.{share_of, row_at, AreCopies}
use Rattle.node_share.proofs.Public.{Puts, header-row, puts-once, puts-then}

module _ {D : Type 0} (home : HomeView D) (line : ℕ) where
  abbrev h : Header
  h = header_at home line

  -- memory takes the words, and the line is clean
  pub clean-words : (h1 h2 : HomeView D) (words : Words) → h1 ≡ with_header home line (record h { memory = words }) → h2 ≡ with_header h1 line (record (header_at h1 line) { dirty = false }) →
      Puts home h2 line (record h { memory = words; dirty = false })
  clean-words h1 h2 words first second = puts-then (puts-once home h1 line (record h { memory = words }) home.dir first) h2 (λ k. record k { dirty = false }) h1.dir second

  -- the share that a row of a header leaves
  abbrev pub Leaves : HomeView D → (LineShare → Outcome) → Type 0
  Leaves new row = (proc : ProcView) (copies : Copies) → AreCopies copies → share_of proc copies new.headers ≡ (row_at home.sizes home.node (share_of proc copies home.headers) line row).share

  module _ (own : home_of home.sizes line ≡ home.node) where
    pub wb-idle : (h2 h3 : HomeView D) (words : Words) → Puts home h2 line (record h { memory = words; dirty = false }) → h3 ≡ relisted h2 h3.dir line none → is_idle h.wait ≡ true → Leaves h3 (on_wb words)
    unfolding on_wb
    wb-idle h2 h3 words before third idle =
        header-row home h3 line (record h { memory = words; dirty = false; list = none }) (on_wb words) own (puts-then before h3 (λ k. record k { list = none }) h3.dir third)
        (record { share = λ copy want. ap (λ b. record { copy = copy; want = want; header = record h { memory = words; dirty = false; list = cond b none h.list } }) idle; done = λ copy want. refl })

    pub wb-pending : (h2 : HomeView D) (words : Words) → Puts home h2 line (record h { memory = words; dirty = false }) → is_idle h.wait ≡ false → Leaves h2 (on_wb words)
    unfolding on_wb
    wb-pending h2 words before idle =
        header-row home h2 line (record h { memory = words; dirty = false }) (on_wb words) own before
        (record { share = λ copy want. ap (λ b. record { copy = copy; want = want; header = record h { memory = words; dirty = false; list = cond b none h.list } }) idle; done = λ copy want. refl })

    pub shwb-done : (h2 h3 : HomeView D) (words : Words) → Puts home h2 line (record h { memory = words; dirty = false }) → h3 ≡ with_header h2 line (record (header_at h2 line) { wait = Idle }) → Leaves h3 (on_shwb words)
    unfolding on_shwb
    shwb-done h2 h3 words before third =
        header-row home h3 line (record h { memory = words; dirty = false; wait = Idle }) (on_shwb words) own (puts-then before h3 (λ k. record k { wait = Idle }) h2.dir third)
        (record { share = λ copy want. refl; done = λ copy want. refl })

    -- a wait ends, and another list is put
    module _ (h1 : HomeView D) (first : h1 ≡ with_header home line (record h { wait = Idle })) where
      pub ended : Puts home h1 line (record h { wait = Idle })
      ended = puts-once home h1 line (record h { wait = Idle }) home.dir first

      relists : (h2 : HomeView D) (list : Nodes) → h2 ≡ relisted h1 h2.dir line list → Puts home h2 line (record h { wait = Idle; list = list })
      relists h2 list second = puts-then ended h2 (λ k. record k { list = list }) h2.dir second

      pub fack-dirty : (h2 : HomeView D) (owner : ℕ) → h2 ≡ relisted h1 h2.dir line (only owner) → owner ≡ requester_of h.wait → h.dirty ≡ true → Leaves h2 on_fack
      unfolding on_fack
      fack-dirty h2 owner second is dirty =
          header-row home h2 line (record h { wait = Idle; list = only owner }) on_fack own (relists h2 (only owner) second)
          (record { share = λ copy want. ap (λ b. record { copy = copy; want = want; header = record h { wait = Idle; list = cond b (only (requester_of h.wait)) none } }) dirty ∙ ap (λ q. record { copy = copy; want = want; header = record h { wait = Idle; list = only q } }) (sym is); done = λ copy want. refl })

      pub fack-clean : (h2 : HomeView D) → h2 ≡ relisted h1 h2.dir line none → h.dirty ≡ false → Leaves h2 on_fack
      unfolding on_fack
      fack-clean h2 second clean =
          header-row home h2 line (record h { wait = Idle; list = none }) on_fack own (relists h2 none second)
          (record { share = λ copy want. ap (λ b. record { copy = copy; want = want; header = record h { wait = Idle; list = cond b (only (requester_of h.wait)) none } }) clean; done = λ copy want. refl })

      pub nakc-dirty : (h2 : HomeView D) (owner : ℕ) → h2 ≡ record (with_header h1 line (unlisted (header_at h1 line) owner)) { dir = h2.dir } → owner ≡ requester_of h.wait → h.dirty ≡ true → Leaves h2 on_nakc
      unfolding on_nakc
      nakc-dirty h2 owner second is dirty =
          header-row home h2 line (record h { wait = Idle; list = unlist h.list owner }) on_nakc own (puts-then ended h2 (λ k. unlisted k owner) h2.dir second)
          (record { share = λ copy want. ap (λ b. record { copy = copy; want = want; header = record h { wait = Idle; list = cond b (unlist h.list (requester_of h.wait)) none } }) dirty ∙ ap (λ q. record { copy = copy; want = want; header = record h { wait = Idle; list = unlist h.list q } }) (sym is); done = λ copy want. refl })

      pub nakc-clean : (h2 : HomeView D) → h2 ≡ relisted h1 h2.dir line none → h.dirty ≡ false → Leaves h2 on_nakc
      unfolding on_nakc
      nakc-clean h2 second clean =
          header-row home h2 line (record h { wait = Idle; list = none }) on_nakc own (relists h2 none second)
          (record { share = λ copy want. ap (λ b. record { copy = copy; want = want; header = record h { wait = Idle; list = cond b (unlist h.list (requester_of h.wait)) none } }) clean; done = λ copy want. refl })
