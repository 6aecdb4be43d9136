-- A GetX that drains its line, call by call.
use Rattle.std.proofs.Common.{◌≡◌, ℕ, Bool, true, false, not, ◌&&◌, arith, ◌∷◌, [], append_assoc, sym, ap, ◌∙◌}
use Rattle.std.proofs.lemmas.Bool.{cond-true, cond-false}
use Rattle.line_map.specs.Sizes.{home_of}
use Rattle.op_model.specs.declared.messages.Msg.TheVariants as msg
use Rattle.op_model.specs.Messages.{PutX}
use Rattle.op_model.specs.Nodes.{Nodes, unlist, count}
use Rattle.op_model.specs.Operations.{Words}
use Rattle.op_model.specs.Lines.{Absent, Header, LineShare, Room, NoService, is_idle, to_listed}
use Rattle.op_model.specs.Events.Node.{messages}
use Rattle.op_model.specs.Tables.Home.{no_other}
use Rattle.op_model.specs.Tables.Home as delayed
use Rattle.eager_model.specs.Rows.{Drain, asks_shared, give_and_drain, on_getx}
use Rattle.cpu_cache.specs.Caches.{CacheView, with_copy}
use Rattle.dir_header.specs.HomeSides.{HomeView, header_at, with_header, unlisted, made_pending}
use Rattle.msg_words.specs.SendList.{SendList}
use Rattle.node_share.specs.Parts.{sent}
use Rattle.node_share.proofs.Public.{Puts, home-row, puts-read, puts-then}
use Rattle.home_getx.proofs.Public.{Does, called-in}

-- which row is done
pub eager-getx : (room : Room) (src : ℕ) (share : LineShare) → asks_shared room src share.header ≡ true → on_getx room src share ≡ give_and_drain src share
unfolding on_getx
eager-getx room src share asks = cond-true (asks_shared room src share.header) _ _ asks

pub delayed-getx : (room : Room) (src : ℕ) (share : LineShare) → asks_shared room src share.header ≡ false → on_getx room src share ≡ delayed.on_getx room src share
unfolding on_getx
delayed-getx room src share asks = cond-false (asks_shared room src share.header) _ _ asks

-- what a GetX that is granted so says
pub asked : (room : Room) (src : ℕ) (header : Header) → asks_shared room src header ≡ true → (is_idle header.wait ≡ true) × (room.full ≡ false)
asked room src header asks = (first_of_them (is_idle header.wait) header.dirty (no_other src header.list) room.full asks, last_of_them (is_idle header.wait) header.dirty (no_other src header.list) room.full asks)
  where
    first_of_them : (i d o f : Bool) → (not (not i) && not d && not o && not f) ≡ true → i ≡ true
    first_of_them i d o f e = grind arith

    last_of_them : (i d o f : Bool) → (not (not i) && not d && not o && not f) ≡ true → f ≡ false
    last_of_them i d o f e = grind arith

module _ {D : Type 0} (home : HomeView D) (cache : CacheView) (src line : ℕ) (out : SendList) (own : home_of home.sizes line ≡ home.node) where
  abbrev h : Header
  h = header_at home line

  abbrev rest : Nodes
  rest = unlist h.list src

  module _ (h1 h2 h3 h4 : HomeView D) (first : h1 ≡ with_header home line (made_pending h (Drain src))) (second : h2 ≡ record (with_header h1 line (unlisted (header_at h1 line) src)) { dir = h2.dir }) (third : h3 ≡ with_header h2 line (record (header_at h2 line) { local = false }))
      (fourth : h4 ≡ with_header h3 line (record (header_at h3 line) { dirty = true })) where
    drains : Puts home h4 line (record h { local = false; dirty = true; wait = Drain src; list = rest; acks = count rest })
    drains = puts-then (called-in home cache src line out own h1 h2 h3 first second third) h4 (λ k. record k { dirty = true }) h3.dir fourth

    pub given : (cache' : CacheView) (out1 out2 : SendList) (words : Words) → words ≡ h.memory → cache' ≡ with_copy cache line Absent → out1 ≡ sent out ((src, msg.PutX line words) ∷ []) →
        out2 ≡ sent out1 (messages line (to_listed (header_at h4 line).list)) → Does home cache src line out h4 cache' out2 (give_and_drain src)
    given cache' out1 out2 words are dropped pushed called =
        home-row home h4 cache.copies cache'.copies line (record h { local = false; dirty = true; wait = Drain src; list = rest; acks = count rest }) Absent out out2 ((src, PutX words) ∷ to_listed rest) NoService (give_and_drain src) own
        drains (ap (λ c. c.copies) dropped)
        (called ∙ ap (λ k. sent out1 (messages line (to_listed k.list))) (puts-read drains) ∙ ap (λ o. sent o (messages line (to_listed rest))) pushed ∙ ap (λ l. record { list = l; room = out.room }) (append_assoc out.list ((src, msg.PutX line words) ∷ []) (messages line (to_listed rest))))
        (λ want. ap (λ w. record { share = record { copy = Absent; want = want; header = record h { local = false; dirty = true; wait = Drain src; list = rest; acks = count rest } }; sends = (src, PutX w) ∷ to_listed rest; served = NoService; done = false }) (sym are))
