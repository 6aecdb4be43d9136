-- Rows of a GetX, call by call.
use Rattle.std.proofs.Common.{◌≡◌, ℕ, ◌-◌, true, false, cond, not, ◌&&◌, [], ◌∷◌, sym, ap, ◌∙◌}
use Rattle.std.proofs.lemmas.Bool.{cond-true, cond-false}
use Rattle.line_map.specs.Sizes.{home_of}
use Rattle.op_model.specs.declared.messages.Msg.TheVariants as msg
use Rattle.op_model.specs.declared.messages.NakCause.TheVariants.{Pending, Budget}
use Rattle.op_model.specs.declared.state.Grantee.TheVariants.{Node}
use Rattle.op_model.specs.declared.state.Wait.TheVariants.{Invalidate, ForwardGetX}
use Rattle.op_model.specs.Messages.{PutX, FwdGetX}
use Rattle.op_model.specs.Nodes.{only, unlist, listed, count, count-unlist}
use Rattle.op_model.specs.Operations.{Words}
use Rattle.op_model.specs.Lines.{Absent, Header, LineShare, Room, NoService, Outcome, is_idle, words_of, owner, to_listed}
use Rattle.op_model.specs.Events.Node.{messages}
use Rattle.op_model.specs.Tables.Home.{on_getx, give_home_copy, give_memory, forward_getx, invalidate_for, refuse, no_other}
use Rattle.op_model.specs.Shares.{copy_in}
use Rattle.cpu_cache.specs.Caches.{CacheView, with_copy}
use Rattle.cpu_cache.specs.Processors.{ProcView}
use Rattle.dir_header.specs.HomeSides.{HomeView, header_at, with_header, relisted, unlisted, made_pending, room_in}
use Rattle.msg_words.specs.SendList.{SendList}
use Rattle.node_share.specs.Parts.{share_of, AreCopies, DoesRow, sent}
use Rattle.node_share.proofs.Public.{Puts, copy-kept, home-row, puts-once, puts-read, puts-then}

module _ {D : Type 0} (home : HomeView D) (cache : CacheView) (src line : ℕ) (out : SendList) where
  abbrev h : Header
  h = header_at home line

  abbrev pub Does : HomeView D → CacheView → SendList → (LineShare → Outcome) → Type 0
  Does home' cache' out' row = (proc : ProcView) → DoesRow home.sizes home.node (share_of proc cache.copies home.headers) (share_of proc cache'.copies home'.headers) out out' line row

  pub away : (h1 : HomeView D) → h1 ≡ with_header home line (record h { local = false }) → Puts home h1 line (record h { local = false })
  away h1 first = puts-once home h1 line (record h { local = false }) home.dir first

  pub away-dirty : (h1 h2 : HomeView D) → h1 ≡ with_header home line (record h { local = false }) → h2 ≡ with_header h1 line (record (header_at h1 line) { dirty = true }) → Puts home h2 line (record h { local = false; dirty = true })
  away-dirty h1 h2 first second = puts-then (away h1 first) h2 (λ k. record k { dirty = true }) h1.dir second

  module _ (own : home_of home.sizes line ≡ home.node) where
    pub gives-copy : (h1 h2 : HomeView D) (cache' : CacheView) (out' : SendList) (words : Words) → h1 ≡ with_header home line (record h { local = false }) → h2 ≡ relisted h1 h2.dir line (only src) →
        words ≡ words_of (copy_in cache.copies line) → cache' ≡ with_copy cache line Absent → out' ≡ sent out ((src, msg.PutX line words) ∷ []) → Does h2 cache' out' (give_home_copy src)
    gives-copy h1 h2 cache' out' words first second are dropped pushed =
        home-row home h2 cache.copies cache'.copies line (record h { local = false; list = only src }) Absent out out' ((src, PutX words) ∷ []) NoService (give_home_copy src) own
        (puts-then (away h1 first) h2 (λ k. record k { list = only src }) h2.dir second) (ap (λ c. c.copies) dropped) pushed
        (λ want. ap (λ w. record { share = record { copy = Absent; want = want; header = record h { local = false; list = only src } }; sends = (src, PutX w) ∷ []; served = NoService; done = false }) (sym are))

    pub gives-memory : (h1 h2 h3 : HomeView D) (cache' : CacheView) (out' : SendList) (words : Words) → h1 ≡ with_header home line (record h { local = false }) → h2 ≡ with_header h1 line (record (header_at h1 line) { dirty = true }) → h3 ≡ relisted h2 h3.dir line (only src) →
        words ≡ h.memory → cache' ≡ with_copy cache line Absent → out' ≡ sent out ((src, msg.PutX line words) ∷ []) → Does h3 cache' out' (give_memory src)
    gives-memory h1 h2 h3 cache' out' words first second third are dropped pushed =
        home-row home h3 cache.copies cache'.copies line (record h { local = false; dirty = true; list = only src }) Absent out out' ((src, PutX words) ∷ []) NoService (give_memory src) own
        (puts-then (away-dirty h1 h2 first second) h3 (λ k. record k { list = only src }) h3.dir third) (ap (λ c. c.copies) dropped) pushed
        (λ want. ap (λ w. record { share = record { copy = Absent; want = want; header = record h { local = false; dirty = true; list = only src } }; sends = (src, PutX w) ∷ []; served = NoService; done = false }) (sym are))

    -- where one more line may be pending
    abbrev pub unless_full : (LineShare → Outcome) → LineShare → Outcome
    unless_full row share = cond (room_in home).full (refuse src Budget share) (row share)

    room-left : (row : LineShare → Outcome) (share : LineShare) → (room_in home).full ≡ false → unless_full row share ≡ row share
    room-left row share free = ap (λ b. cond b (refuse src Budget share) (row share)) free

    pub forwards : (h1 : HomeView D) (out' : SendList) (node : ℕ) → AreCopies cache.copies → (room_in home).full ≡ false → h.acks ≡ 0 → h1 ≡ with_header home line (made_pending h (ForwardGetX src)) → node ≡ owner h →
        out' ≡ sent out ((node, msg.FwdGetX line src) ∷ []) → Does h1 cache out' (unless_full (forward_getx src))
    forwards h1 out' node are free none first is pushed =
        home-row home h1 cache.copies cache.copies line (record h { wait = ForwardGetX src; acks = 0 }) (copy_in cache.copies line) out out' ((node, FwdGetX src) ∷ []) NoService (unless_full (forward_getx src)) own
        (puts-once home h1 line (record h { wait = ForwardGetX src; acks = 0 }) home.dir first) (sym (copy-kept cache.copies line are)) pushed
        (λ want. room-left (forward_getx src) (record { copy = copy_in cache.copies line; want = want; header = h }) free
        ∙ (λ i. record { share = record { copy = copy_in cache.copies line; want = want; header = record h { wait = ForwardGetX src; acks = none i } }; sends = (sym is i, FwdGetX src) ∷ []; served = NoService; done = false }))

    due : ℕ
    due = cond (listed h.list src) (count h.list - 1) (count h.list)

    pub called-in : (h1 h2 h3 : HomeView D) → h1 ≡ with_header home line (made_pending h (Invalidate (Node src))) → h2 ≡ record (with_header h1 line (unlisted (header_at h1 line) src)) { dir = h2.dir } → h3 ≡ with_header h2 line (record (header_at h2 line) { local = false }) →
        Puts home h3 line (record h { wait = Invalidate (Node src); acks = count (unlist h.list src); list = unlist h.list src; local = false })
    called-in h1 h2 h3 first second third =
        let p1 = puts-once home h1 line (made_pending h (Invalidate (Node src))) home.dir first in
        let p2 = puts-then p1 h2 (λ k. unlisted k src) h2.dir second in
        let p3 = puts-then p2 h3 (λ k. record k { local = false }) h2.dir third in
        record {
          sizes = p3.sizes;
          node = p3.node;
          charge = p3.charge;
          headers = p3.headers ∙ ap (λ n. Rattle.std.specs.FinMap.insert home.headers line (record h { wait = Invalidate (Node src); acks = n; list = unlist h.list src; local = false })) (sym (count-unlist h.list src));
        }

    pub invalidates : (h1 h2 h3 : HomeView D) (cache' : CacheView) (out' : SendList) → (room_in home).full ≡ false → h1 ≡ with_header home line (made_pending h (Invalidate (Node src))) → h2 ≡ record (with_header h1 line (unlisted (header_at h1 line) src)) { dir = h2.dir } →
        h3 ≡ with_header h2 line (record (header_at h2 line) { local = false }) → cache' ≡ with_copy cache line Absent → out' ≡ sent out (messages line (to_listed (header_at h3 line).list)) → Does h3 cache' out' (unless_full (invalidate_for src))
    invalidates h1 h2 h3 cache' out' free first second third dropped pushed =
        let puts = called-in h1 h2 h3 first second third in
        home-row home h3 cache.copies cache'.copies line (record h { wait = Invalidate (Node src); acks = count (unlist h.list src); list = unlist h.list src; local = false }) Absent out out' (to_listed (unlist h.list src)) NoService (unless_full (invalidate_for src)) own
        puts (ap (λ c. c.copies) dropped) (pushed ∙ ap (λ k. sent out (messages line (to_listed k.list))) (puts-read puts))
        (λ want. room-left (invalidate_for src) (record { copy = copy_in cache.copies line; want = want; header = h }) free)

-- which row is done
module _ (room : Room) (src : ℕ) (share : LineShare) where
  pub getx-pending : is_idle share.header.wait ≡ false → on_getx room src share ≡ refuse src Pending share
  unfolding on_getx
  getx-pending waits = cond-true (not (is_idle share.header.wait)) _ _ (ap not waits)

  module _ (idle : is_idle share.header.wait ≡ true) where
    pub getx-copy : share.header.dirty ≡ true → share.header.local ≡ true → on_getx room src share ≡ give_home_copy src share
    unfolding on_getx
    getx-copy dirty local =
        cond-false (not (is_idle share.header.wait)) _ _ (ap not idle)
        ∙ cond-true (share.header.dirty && share.header.local) _ _ ((λ i. dirty i && local i))

    pub getx-owner : share.header.dirty ≡ true → share.header.local ≡ false → on_getx room src share ≡ cond room.full (refuse src Budget share) (forward_getx src share)
    unfolding on_getx
    getx-owner dirty local =
        cond-false (not (is_idle share.header.wait)) _ _ (ap not idle)
        ∙ cond-false (share.header.dirty && share.header.local) _ _ ((λ i. dirty i && local i))
        ∙ ap (λ b. cond (b && room.full) (refuse src Budget share) (cond b (forward_getx src share) (cond (no_other src share.header.list) (give_memory src share) (cond room.full (refuse src Budget share) (invalidate_for src share))))) dirty

    getx-clean : share.header.dirty ≡ false → on_getx room src share ≡ cond (no_other src share.header.list) (give_memory src share) (cond room.full (refuse src Budget share) (invalidate_for src share))
    unfolding on_getx
    getx-clean clean =
        cond-false (not (is_idle share.header.wait)) _ _ (ap not idle)
        ∙ ap (λ b. cond (b && share.header.local) (give_home_copy src share) (cond (b && room.full) (refuse src Budget share) (cond b (forward_getx src share) (cond (no_other src share.header.list) (give_memory src share) (cond room.full (refuse src Budget share) (invalidate_for src share)))))) clean

    pub getx-memory : share.header.dirty ≡ false → no_other src share.header.list ≡ true → on_getx room src share ≡ give_memory src share
    getx-memory clean alone = getx-clean clean ∙ cond-true (no_other src share.header.list) _ _ alone

    pub getx-called : share.header.dirty ≡ false → no_other src share.header.list ≡ false → on_getx room src share ≡ cond room.full (refuse src Budget share) (invalidate_for src share)
    getx-called clean others = getx-clean clean ∙ cond-false (no_other src share.header.list) _ _ others
