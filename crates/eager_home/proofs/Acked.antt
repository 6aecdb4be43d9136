-- An acknowledgement of a line that drains, call by call.
use Rattle.std.proofs.Common.{◌≡◌, ℕ, ◌-◌, ◌<◌, ◌≤◌, true, cond, ◌&&◌, ap, ◌∙◌, arith}
use Rattle.line_map.specs.Sizes.{home_of}
use Rattle.op_model.specs.declared.state.Wait.TheVariants.{Idle}
use Rattle.op_model.specs.Nodes.{Nodes, listed, unlist, only}
use Rattle.op_model.specs.Lines.{Header, sending, no_message}
use Rattle.op_model.specs.Shares.{Copies}
use Rattle.op_model.specs.Tables.Remote.{is_invalidate}
use Rattle.eager_model.specs.Rows.{on_inv_ack, drained_list}
use Rattle.cpu_cache.specs.Processors.{ProcView}
use Rattle.dir_header.specs.HomeSides.{HomeView, header_at, with_header, relisted, unlisted}
use Rattle.node_share.specs.Parts.{share_of, row_at, AreCopies}
use Rattle.node_share.proofs.Public.{Puts, header-row, puts-as, puts-once, puts-then}
use Rattle.home_getx.proofs.Public.{few-test, more-test}

module _ {D : Type 0} (home : HomeView D) (src line : ℕ) (own : home_of home.sizes line ≡ home.node) (waits : is_invalidate (header_at home line).wait ≡ true) (was : listed (header_at home line).list src ≡ true) where
  abbrev h : Header
  h = header_at home line

  abbrev rest : Nodes
  rest = unlist h.list src

  -- the share that the row leaves
  abbrev pub Leaves : HomeView D → Type 0
  Leaves new = (proc : ProcView) (copies : Copies) → AreCopies copies → share_of proc copies new.headers ≡ (row_at home.sizes home.node (share_of proc copies home.headers) line (on_inv_ack home.node src)).share

  module _ (h1 : HomeView D) (first : h1 ≡ record (with_header home line (unlisted h src)) { dir = h1.dir }) where
    pub acked : Puts home h1 line (record h { list = rest; acks = h.acks - 1 })
    acked = puts-as (puts-once home h1 line (unlisted h src) h1.dir first) (record h { list = rest; acks = h.acks - 1 }) (λ i. record h { list = rest; acks = cond (waits i && was i) (h.acks - 1) h.acks })

    pub more : 1 < h.acks → Leaves h1
    unfolding on_inv_ack
    more e =
        header-row home h1 line (record h { list = rest; acks = h.acks - 1 }) (on_inv_ack home.node src) own acked
        (record {
          share = λ copy want. ap (λ b. (cond b (sending (record { copy = copy; want = want; header = record h { wait = Idle; list = drained_list home.node h rest; acks = 0 } }) no_message) (sending (record { copy = copy; want = want; header = record h { list = rest; acks = h.acks - 1 } }) no_message)).share) (more-test h.acks e);
          done = λ copy want. ap (λ b. (cond b (sending (record { copy = copy; want = want; header = record h { wait = Idle; list = drained_list home.node h rest; acks = 0 } }) no_message) (sending (record { copy = copy; want = want; header = record h { list = rest; acks = h.acks - 1 } }) no_message)).done) (more-test h.acks e);
        })

    module _ (few : h.acks ≤ 1) (h2 : HomeView D) (second : h2 ≡ with_header h1 line (record (header_at h1 line) { wait = Idle })) where
      none-due : h.acks - 1 ≡ 0
      none-due = omega arith

      pub rested : Puts home h2 line (record h { list = rest; acks = 0; wait = Idle })
      rested = puts-as (puts-then acked h2 (λ k. record k { wait = Idle }) h1.dir second) (record h { list = rest; acks = 0; wait = Idle }) (ap (λ n. record h { list = rest; acks = n; wait = Idle }) none-due)

      last : (new : HomeView D) (list : Nodes) → Puts home new line (record h { wait = Idle; list = list; acks = 0 }) → drained_list home.node h rest ≡ list → Leaves new
      unfolding on_inv_ack
      last new list puts is =
          header-row home new line (record h { wait = Idle; list = list; acks = 0 }) (on_inv_ack home.node src) own puts
          (record {
            share = λ copy want. ap (λ b. (cond b (sending (record { copy = copy; want = want; header = record h { wait = Idle; list = drained_list home.node h rest; acks = 0 } }) no_message) (sending (record { copy = copy; want = want; header = record h { list = rest; acks = h.acks - 1 } }) no_message)).share) (few-test h.acks few) ∙ ap (λ l. record { copy = copy; want = want; header = record h { wait = Idle; list = l; acks = 0 } }) is;
            done = λ copy want. ap (λ b. (cond b (sending (record { copy = copy; want = want; header = record h { wait = Idle; list = drained_list home.node h rest; acks = 0 } }) no_message) (sending (record { copy = copy; want = want; header = record h { list = rest; acks = h.acks - 1 } }) no_message)).done) (few-test h.acks few);
          })

      pub nobody-owns : drained_list home.node h rest ≡ rest → Leaves h2
      nobody-owns is = last h2 rest rested is

      pub owned : (h3 : HomeView D) (owner : ℕ) → h3 ≡ relisted h2 h3.dir line (only owner) → drained_list home.node h rest ≡ only owner → Leaves h3
      owned h3 owner third is = last h3 (only owner) (puts-then rested h3 (λ k. record k { list = only owner }) h3.dir third) is
