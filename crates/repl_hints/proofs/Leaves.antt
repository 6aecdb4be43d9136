-- A copy leaves its cache, call by call; and a hint at the home.
use Rattle.std.proofs.Common.{◌≡◌, ◌≢◌, ℕ, true, false, cond, not, ◌&&◌, [], ◌∷◌, refl, sym, ap, ◌∙◌}
use Rattle.line_map.specs.Sizes.{Sizes, home_of}
use Rattle.op_model.specs.declared.events.EvictKind.{EvictKind}
use Rattle.op_model.specs.declared.events.EvictKind.TheVariants as way
use Rattle.op_model.specs.declared.messages.Msg.TheVariants as msg
use Rattle.op_model.specs.Nodes.{unlist}
use Rattle.op_model.specs.Operations.{Words}
use Rattle.op_model.specs.Lines.{Copy, Absent, Shared, Exclusive, Header, LineShare, NoService, is_exclusive, is_empty, is_idle, sending, no_message, words_of}
use Rattle.op_model.specs.Shares.{line_share, copy_of, Copies, copy_in, Headers}
use Rattle.op_model.specs.Events.Node.{messages}
use Rattle.op_model.specs.Tables.Home.{on_rpl}
use Rattle.op_model.specs.Tables.Processor.{leave_home, leave_remote}
use Rattle.op_model.proofs.Public.{want-stays}
use Rattle.cpu_cache.specs.Caches.{CacheView, with_copy}
use Rattle.cpu_cache.specs.Processors.{ProcView}
use Rattle.dir_header.specs.HomeSides.{HomeView, header_at, with_header, unlisted}
use Rattle.msg_words.specs.SendList.{SendList}
use Rattle.node_share.specs.Parts.{share_of, row_at, AreCopies, AreHeaders, DoesRow, sent}
use Rattle.node_share.proofs.Public.{away-row, header-row, home-row, puts-none, puts-once, puts-then}
use Rattle.node_share.proofs.Public.{sent-none}

exclusive-row : (copy : Copy) (share : LineShare) → is_exclusive copy ≡ true → leave_home copy share ≡ sending (record share { copy = Absent; header = record share.header { local = false; dirty = false; memory = words_of copy } }) no_message
exclusive-row Absent share e = cc
exclusive-row (Shared words) share e = cc
exclusive-row (Exclusive words) share e = refl

shared-row : (copy : Copy) (share : LineShare) → is_empty copy ≡ false → is_exclusive copy ≡ false → leave_home copy share ≡ sending (record share { copy = Absent; header = record share.header { local = false } }) no_message
shared-row Absent share e f = cc
shared-row (Shared words) share e f = refl
shared-row (Exclusive words) share e f = cc

-- at the home nothing is sent
pub home-sends : (line : ℕ) (copy : Copy) (share : LineShare) → messages line (leave_home copy share).sends ≡ []
home-sends line Absent share = refl
home-sends line (Shared words) share = refl
home-sends line (Exclusive words) share = refl

quiet_list : SendList
quiet_list = record { list = []; room = 0 }

module _ {D : Type 0} (home : HomeView D) (line : ℕ) (own : home_of home.sizes line ≡ home.node) where
  abbrev h : Header
  h = header_at home line

  -- a copy leaves the home's cache
  module _ (cache cache' : CacheView) (dropped : cache' ≡ with_copy cache line Absent) where
    abbrev pub Leaves : HomeView D → Type 0
    Leaves home' = (proc : ProcView) → share_of proc cache'.copies home'.headers ≡ (row_at home.sizes home.node (share_of proc cache.copies home.headers) line (λ share. leave_home share.copy share)).share

    pub leave-exclusive : (h1 h2 h3 : HomeView D) (words : Words) → is_exclusive (copy_in cache.copies line) ≡ true → words ≡ words_of (copy_in cache.copies line) → h1 ≡ with_header home line (record h { local = false }) →
        h2 ≡ with_header h1 line (record (header_at h1 line) { dirty = false }) → h3 ≡ with_header h2 line (record (header_at h2 line) { memory = words }) → Leaves h3
    leave-exclusive h1 h2 h3 words there are first second third proc =
        (home-row home h3 cache.copies cache'.copies line (record h { local = false; dirty = false; memory = words }) Absent quiet_list quiet_list [] NoService (λ share. leave_home share.copy share) own
        (puts-then (puts-then (puts-once home h1 line (record h { local = false }) home.dir first) h2 (λ k. record k { dirty = false }) h1.dir second) h3 (λ k. record k { memory = words }) h2.dir third)
        (ap (λ c. c.copies) dropped) (sent-none quiet_list)
        (λ want. exclusive-row (copy_in cache.copies line) (record { copy = copy_in cache.copies line; want = want; header = h }) there
        ∙ ap (λ w. sending (record { copy = Absent; want = want; header = record h { local = false; dirty = false; memory = w } }) no_message) (sym are)) proc).share

    pub leave-shared : (h1 : HomeView D) → is_empty (copy_in cache.copies line) ≡ false → is_exclusive (copy_in cache.copies line) ≡ false → h1 ≡ with_header home line (record h { local = false }) → Leaves h1
    leave-shared h1 held shared first proc =
        (home-row home h1 cache.copies cache'.copies line (record h { local = false }) Absent quiet_list quiet_list [] NoService (λ share. leave_home share.copy share) own
        (puts-once home h1 line (record h { local = false }) home.dir first) (ap (λ c. c.copies) dropped) (sent-none quiet_list)
        (λ want. shared-row (copy_in cache.copies line) (record { copy = copy_in cache.copies line; want = want; header = h }) held shared) proc).share

  -- a hint
  module _ (src : ℕ) where
    abbrev pub Hears : HomeView D → Type 0
    Hears home' = (proc : ProcView) (copies : Copies) → AreCopies copies → share_of proc copies home'.headers ≡ (row_at home.sizes home.node (share_of proc copies home.headers) line (on_rpl src)).share

    kept-rpl : AreHeaders home.sizes home.node home.headers → (is_idle h.wait && not h.dirty) ≡ false → Hears home
    unfolding on_rpl
    kept-rpl has off =
        header-row home home line h (on_rpl src) own (puts-none home line has own)
        (record {
          share = λ copy want. ap (λ b. (cond b (sending (record { copy = copy; want = want; header = record h { list = unlist h.list src } }) no_message) (sending (record { copy = copy; want = want; header = h }) no_message)).share) off;
          done = λ copy want. ap (λ b. (cond b (sending (record { copy = copy; want = want; header = record h { list = unlist h.list src } }) no_message) (sending (record { copy = copy; want = want; header = h }) no_message)).done) off;
        })

    pub rpl-waits : AreHeaders home.sizes home.node home.headers → is_idle h.wait ≡ false → Hears home
    rpl-waits has waits = kept-rpl has (ap (λ b. b && not h.dirty) waits)

    pub rpl-dirty : AreHeaders home.sizes home.node home.headers → is_idle h.wait ≡ true → h.dirty ≡ true → Hears home
    rpl-dirty has idle dirty = kept-rpl has (λ i. idle i && not (dirty i))

    pub rpl-clean : (h1 : HomeView D) → is_idle h.wait ≡ true → h.dirty ≡ false → h1 ≡ record (with_header home line (unlisted h src)) { dir = h1.dir } → (unlisted h src).acks ≡ h.acks → Hears h1
    unfolding on_rpl
    rpl-clean h1 idle clean first acks =
        header-row home h1 line (unlisted h src) (on_rpl src) own (puts-once home h1 line (unlisted h src) h1.dir first)
        (record {
          share = λ copy want. ap (λ b. (cond b (sending (record { copy = copy; want = want; header = record h { list = unlist h.list src } }) no_message) (sending (record { copy = copy; want = want; header = h }) no_message)).share) (λ i. idle i && not (clean i))
              ∙ ap (λ n. record { copy = copy; want = want; header = record h { list = unlist h.list src; acks = n } }) (sym acks);
          done = λ copy want. ap (λ b. (cond b (sending (record { copy = copy; want = want; header = record h { list = unlist h.list src } }) no_message) (sending (record { copy = copy; want = want; header = h }) no_message)).done) (λ i. idle i && not (clean i));
        })

-- a copy leaves another cache
module _ (sizes : Sizes) (node line at : ℕ) (cache cache' : CacheView) (out out' : SendList) (away : home_of sizes line ≢ node) (dropped : cache' ≡ with_copy cache line Absent) (proc : ProcView) (headers : Headers) where
  abbrev pub Goes : EvictKind → Type 0
  Goes kind = DoesRow sizes node (share_of proc cache.copies headers) (share_of proc cache'.copies headers) out out' line (leave_remote at kind)

  pub goes-back : (kind : EvictKind) (words : Words) → kind ≡ way.Wb → words ≡ words_of (copy_in cache.copies line) → out' ≡ sent out ((at, msg.Wb line words) ∷ []) → Goes kind
  unfolding copy_of
  goes-back kind words is are pushed =
      away-row sizes node line proc proc cache.copies cache'.copies headers out out' (leave_remote at kind) (leave_remote at way.Wb (line_share sizes (share_of proc cache.copies headers) line)) away
      (ap (λ k. leave_remote at k (line_share sizes (share_of proc cache.copies headers) line)) is) (ap (λ c. c.copies) dropped) refl (sym (want-stays sizes proc.want line)) (pushed ∙ ap (λ w. sent out ((at, msg.Wb line w) ∷ [])) are)

  pub goes-hinting : (kind : EvictKind) → kind ≡ way.Hint → out' ≡ sent out ((at, msg.Rpl line) ∷ []) → Goes kind
  goes-hinting kind is pushed =
      away-row sizes node line proc proc cache.copies cache'.copies headers out out' (leave_remote at kind) (leave_remote at way.Hint (line_share sizes (share_of proc cache.copies headers) line)) away
      (ap (λ k. leave_remote at k (line_share sizes (share_of proc cache.copies headers) line)) is) (ap (λ c. c.copies) dropped) refl (sym (want-stays sizes proc.want line)) pushed

  pub goes-silently : (kind : EvictKind) → kind ≡ way.Silent → out' ≡ out → Goes kind
  goes-silently kind is same =
      away-row sizes node line proc proc cache.copies cache'.copies headers out out' (leave_remote at kind) (leave_remote at way.Silent (line_share sizes (share_of proc cache.copies headers) line)) away
      (ap (λ k. leave_remote at k (line_share sizes (share_of proc cache.copies headers) line)) is) (ap (λ c. c.copies) dropped) refl (sym (want-stays sizes proc.want line)) (same ∙ sent-none out)
