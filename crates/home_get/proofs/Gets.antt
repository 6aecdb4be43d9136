-- Rows of a Get, call by call.
use Rattle.std.proofs.Common.{◌≡◌, ℕ, false, cond, [], ◌∷◌, refl, sym, ap, ◌∙◌}
use Rattle.line_map.specs.Sizes.{home_of}
use Rattle.op_model.specs.declared.messages.Msg.TheVariants as msg
use Rattle.op_model.specs.declared.messages.NakCause.TheVariants.{Budget}
use Rattle.op_model.specs.declared.state.Wait.TheVariants.{ForwardGet}
use Rattle.op_model.specs.Messages.{Put, FwdGet}
use Rattle.op_model.specs.Nodes.{enlist}
use Rattle.op_model.specs.Operations.{Words}
use Rattle.op_model.specs.Lines.{Shared, Header, LineShare, NoService, For, Outcome, words_of, owner}
use Rattle.op_model.specs.Tables.Home.{share_home_copy, share_memory, forward_get, refuse}
use Rattle.op_model.specs.Shares.{copy_in}
use Rattle.cpu_cache.specs.Caches.{CacheView, with_copy}
use Rattle.cpu_cache.specs.Processors.{ProcView}
use Rattle.dir_header.specs.HomeSides.{HomeView, header_at, with_header, relisted, made_pending, room_in}
use Rattle.msg_words.specs.SendList.{SendList}
use Rattle.node_share.specs.Parts.{share_of, AreCopies, AreHeaders, DoesRow, sent}
use Rattle.node_share.proofs.Public.{Puts, copy-kept, full-stays, home-row, puts-once, puts-then}

module _ {D : Type 0} (home : HomeView D) (cache : CacheView) (src line : ℕ) (out : SendList) (own : home_of home.sizes line ≡ home.node) where
  abbrev h : Header
  h = header_at home line

  abbrev pub Does : HomeView D → CacheView → SendList → (LineShare → Outcome) → Type 0
  Does home' cache' out' row = (proc : ProcView) → DoesRow home.sizes home.node (share_of proc cache.copies home.headers) (share_of proc cache'.copies home'.headers) out out' line row

  module _ (h1 : HomeView D) (first : h1 ≡ relisted home h1.dir line (enlist h.list src)) where
    pub listed : Puts home h1 line (record h { list = enlist h.list src })
    listed = puts-once home h1 line (record h { list = enlist h.list src }) h1.dir first

    pub shares-copy : (h2 h3 : HomeView D) (cache' : CacheView) (out' : SendList) (words : Words) → h2 ≡ with_header h1 line (record (header_at h1 line) { memory = words }) → h3 ≡ with_header h2 line (record (header_at h2 line) { dirty = false }) →
        words ≡ words_of (copy_in cache.copies line) → cache' ≡ with_copy cache line (Shared (words_of (copy_in cache.copies line))) → out' ≡ sent out ((src, msg.Put line words) ∷ []) → Does h3 cache' out' (share_home_copy src)
    shares-copy h2 h3 cache' out' words second third are shared pushed =
        home-row home h3 cache.copies cache'.copies line (record h { list = enlist h.list src; memory = words; dirty = false }) (Shared (words_of (copy_in cache.copies line))) out out' ((src, Put words) ∷ []) (For src (words_of (copy_in cache.copies line))) (share_home_copy src) own
        (puts-then (puts-then listed h2 (λ k. record k { memory = words }) h1.dir second) h3 (λ k. record k { dirty = false }) h2.dir third) (ap (λ c. c.copies) shared) pushed
        (λ want. ap (λ w. record { share = record { copy = Shared (words_of (copy_in cache.copies line)); want = want; header = record h { list = enlist h.list src; memory = w; dirty = false } }; sends = (src, Put w) ∷ []; served = For src (words_of (copy_in cache.copies line)); done = false }) (sym are))

    pub shares-memory : (out' : SendList) (words : Words) → AreCopies cache.copies → words ≡ h.memory → out' ≡ sent out ((src, msg.Put line words) ∷ []) → Does h1 cache out' (share_memory src)
    shares-memory out' words held are pushed =
        home-row home h1 cache.copies cache.copies line (record h { list = enlist h.list src }) (copy_in cache.copies line) out out' ((src, Put words) ∷ []) (For src h.memory) (share_memory src) own
        listed (sym (copy-kept cache.copies line held)) pushed
        (λ want. ap (λ w. record { share = record { copy = copy_in cache.copies line; want = want; header = record h { list = enlist h.list src } }; sends = (src, Put w) ∷ []; served = For src h.memory; done = false }) (sym are))

    pub still-room : AreHeaders home.sizes home.node home.headers → (room_in home).full ≡ false → (room_in h1).full ≡ false
    still-room has free = full-stays home h1 line (record h { list = enlist h.list src }) has own listed refl ∙ free

    pub forwards : (h2 : HomeView D) (out' : SendList) (node : ℕ) → AreCopies cache.copies → (room_in home).full ≡ false → h.acks ≡ 0 → h2 ≡ with_header h1 line (made_pending (header_at h1 line) (ForwardGet src)) → node ≡ owner h →
        out' ≡ sent out ((node, msg.FwdGet line src) ∷ []) → Does h2 cache out' (λ share. cond (room_in home).full (refuse src Budget share) (forward_get src share))
    forwards h2 out' node held free none second is pushed =
        home-row home h2 cache.copies cache.copies line (record h { list = enlist h.list src; wait = ForwardGet src; acks = 0 }) (copy_in cache.copies line) out out' ((node, FwdGet src) ∷ []) NoService (λ share. cond (room_in home).full (refuse src Budget share) (forward_get src share)) own
        (puts-then listed h2 (λ k. made_pending k (ForwardGet src)) h1.dir second) (sym (copy-kept cache.copies line held)) pushed
        (λ want. ap (λ b. cond b (refuse src Budget (record { copy = copy_in cache.copies line; want = want; header = h })) (forward_get src (record { copy = copy_in cache.copies line; want = want; header = h }))) free
        ∙ (λ i. record { share = record { copy = copy_in cache.copies line; want = want; header = record h { list = enlist h.list src; wait = ForwardGet src; acks = none i } }; sends = (sym is i, FwdGet src) ∷ []; served = NoService; done = false }))
