-- What each handler needs, from the row that its message meets and from what a node keeps.
use Rattle.std.proofs.Common.{◌≡◌, ◌≢◌, ℕ, ◌<◌, Bool, true, false, not, ◌||◌, ◌==◌, refl, sym, ◌∙◌, arith}
use Rattle.std.proofs.lemmas.Bool.{and_parts, not-true, eqb-true, eq-eqb}
use Rattle.line_map.specs.Sizes.{home_of}
use Rattle.op_model.specs.declared.messages.Msg.TheVariants as msg
use Rattle.op_model.specs.declared.messages.NakCause.{NakCause}
use Rattle.op_model.specs.declared.state.Wait.{Wait}
use Rattle.op_model.specs.declared.state.Wait.TheVariants.{Idle, Invalidate, ForwardGet, ForwardGetX}
use Rattle.op_model.specs.Nodes.{listed}
use Rattle.op_model.specs.Operations.{Words}
use Rattle.op_model.specs.Lines.{Header, LineShare, is_pending, is_outstanding}
use Rattle.op_model.specs.OwnPart.{IsOwnWait}
use Rattle.op_model.specs.Shares.{Share, is_set_empty, line_share, want_on, header_in}
use Rattle.op_model.specs.Tables.Home.{requester_of}
use Rattle.op_model.specs.Tables.Remote.{meets, asks_well, is_invalidate, is_forward, is_forward_get, is_forward_getx, gets_elsewhere, getxs_elsewhere, waits_load, waits_write}
use Rattle.op_model.specs.Events.Node.{meets_row}
use Rattle.op_model.proofs.Public.{forward-get, forward-getx, three_parts}
use Rattle.own_part.proofs.Public.{all4}
use Rattle.cpu_cache.specs.Caches.{CacheView}
use Rattle.cpu_cache.specs.Processors.{ProcView}
use Rattle.dir_header.specs.HomeSides.{HomeView, header_at}
use Rattle.node_range.specs.Range.{IsWaitIn}
use Rattle.magic_node.specs.Nodes.{IsMagicNode, node_share}

-- a forward waits, no acknowledgement of it is due, and its requester is a node of the machine
forwarded : (home nodes : ℕ) (share : LineShare) → IsOwnWait home share.header.wait share → IsWaitIn nodes share.header.wait → 0 < nodes → is_forward share.header.wait ≡ true → (is_pending share.header ≡ true) × (share.header.acks ≡ 0) × (requester_of share.header.wait < nodes)
forwarded home nodes share own in_it some is = by share.header.wait own in_it is
  where
    by : (wait : Wait) → IsOwnWait home wait share → IsWaitIn nodes wait → is_forward wait ≡ true → (not (Rattle.op_model.specs.Lines.is_idle wait) ≡ true) × (share.header.acks ≡ 0) × (requester_of wait < nodes)
    by Idle o i e = cc
    by (Invalidate g) o i e = cc
    by (ForwardGet r) o i e = (refl, o.0, i)
    by (ForwardGetX r) o i e = (refl, o.0, i)

gets-forward : (home : ℕ) (wait : Wait) → gets_elsewhere home wait ≡ true → is_forward wait ≡ true
gets-forward home Idle e = cc
gets-forward home (Invalidate g) e = cc
gets-forward home (ForwardGet r) e = refl
gets-forward home (ForwardGetX r) e = cc

getxs-forward : (home : ℕ) (wait : Wait) → getxs_elsewhere home wait ≡ true → is_forward wait ≡ true
getxs-forward home Idle e = cc
getxs-forward home (Invalidate g) e = cc
getxs-forward home (ForwardGet r) e = cc
getxs-forward home (ForwardGetX r) e = refl

module _ {D : Type 0} (number : ℕ) (proc : ProcView) (cache : CacheView) (home : HomeView D) (is : IsMagicNode number proc cache home) (src line : ℕ) where
  abbrev share : Share
  share = node_share proc cache home

  abbrev h : Header
  h = header_at home line

  abbrev at : ℕ
  at = home_of home.sizes line

  here : (number == at) ≡ true → at ≡ number
  here e = sym (eqb-true number at e)

  -- a line that waits for an owner
  module _ (own : at ≡ number) (waits : is_forward h.wait ≡ true) where
    pub forward-facts : (is_pending h ≡ true) × (h.acks ≡ 0) × (requester_of h.wait < home.sizes.nodes)
    unfolding header_in
    forward-facts = forwarded number home.sizes.nodes (line_share home.sizes share line) (is.own.lines line own).waiting (is.fits.headers line).nodes.waits (let n = is.numbered in omega arith) waits

  pub get-met : meets_row home.sizes number share src (msg.Get line) ≡ true → at ≡ number
  unfolding meets_row meets header_in
  get-met e = here (three_parts (number == at) (not (src == at)) (asks_well src h) e).0

  pub getx-met : meets_row home.sizes number share src (msg.GetX line) ≡ true → at ≡ number
  unfolding meets_row meets header_in
  getx-met e = here (three_parts (number == at) (not (src == at)) (asks_well src h) e).0

  pub rpl-met : meets_row home.sizes number share src (msg.Rpl line) ≡ true → at ≡ number
  unfolding meets_row meets
  rpl-met e = here e

  pub wb-met : (words : Words) → meets_row home.sizes number share src (msg.Wb line words) ≡ true → at ≡ number
  unfolding meets_row meets header_in
  wb-met words e = here (all4 (number == at) h.dirty (not h.local) (not (is_invalidate h.wait)) e).0

  pub inv_ack-met : meets_row home.sizes number share src (msg.InvAck line) ≡ true → (at ≡ number) × (is_invalidate h.wait ≡ true) × (listed h.list src ≡ true)
  unfolding meets_row meets header_in
  inv_ack-met e = let m = three_parts (number == at) (is_invalidate h.wait) (listed h.list src) e in (here m.0, m.1, m.2)

  pub shwb-met : (words : Words) → meets_row home.sizes number share src (msg.ShWb line words) ≡ true → (at ≡ number) × (is_forward h.wait ≡ true)
  unfolding meets_row meets header_in
  shwb-met words e = let m = and_parts (number == at) (gets_elsewhere at h.wait) e in (here m.0, gets-forward at h.wait m.1)

  pub fack-met : meets_row home.sizes number share src (msg.FAck line) ≡ true → (at ≡ number) × (is_forward h.wait ≡ true)
  unfolding meets_row meets header_in
  fack-met e = let m = and_parts (number == at) (getxs_elsewhere at h.wait) e in (here m.0, getxs-forward at h.wait m.1)

  pub nakc-met : meets_row home.sizes number share src (msg.Nakc line) ≡ true → (at ≡ number) × (is_forward h.wait ≡ true)
  unfolding meets_row meets header_in
  nakc-met e = let m = and_parts (number == at) (is_forward h.wait) e in (here m.0, m.1)

  away-met : not (number == at) ≡ true → at ≢ number
  away-met e same = let t : (number == at) ≡ true = eq-eqb number at (sym same) in let f = not-true (number == at) e in let d : true ≡ false = sym t ∙ f in cc

  pub fwd_get-met : (req : ℕ) → meets_row home.sizes number share src (msg.FwdGet line req) ≡ true → at ≢ number
  unfolding meets_row meets
  fwd_get-met req e = away-met e

  pub fwd_getx-met : (req : ℕ) → meets_row home.sizes number share src (msg.FwdGetX line req) ≡ true → at ≢ number
  unfolding meets_row meets
  fwd_getx-met req e = away-met e

  pub inv-met : meets_row home.sizes number share src (msg.Inv line) ≡ true → at ≢ number
  unfolding meets_row meets
  inv-met e = away-met e

  -- where the home itself has asked, it waits for the owner
  either-home : (b : Bool) → (not (number == at) || b) ≡ true → at ≡ number → b ≡ true
  either-home b e same = by (number == at) (eq-eqb number at (sym same)) e
    where
      by : (c : Bool) → c ≡ true → (not c || b) ≡ true → b ≡ true
      by true t e = e
      by false t e = cc

  pub put-met : (words : Words) → meets_row home.sizes number share src (msg.Put line words) ≡ true → (waits_load (want_on home.sizes proc.want line) ≡ true) × (is_set_empty home.sizes share line ≡ true) × (at ≡ number → is_forward h.wait ≡ true)
  unfolding meets_row meets header_in
  put-met words e =
      let m = three_parts (waits_load (want_on home.sizes proc.want line)) (is_set_empty home.sizes share line) (not (number == at) || is_forward_get at h.wait) e in
      (m.0, m.1, λ own. forward-get at h.wait (either-home (is_forward_get at h.wait) m.2 own))

  pub putx-met : (words : Words) → meets_row home.sizes number share src (msg.PutX line words) ≡ true → (waits_write (want_on home.sizes proc.want line) ≡ true) × (is_set_empty home.sizes share line ≡ true) × (at ≡ number → is_forward h.wait ≡ true)
  unfolding meets_row meets header_in
  putx-met words e =
      let m = three_parts (waits_write (want_on home.sizes proc.want line)) (is_set_empty home.sizes share line) (not (number == at) || is_forward_getx at h.wait) e in
      (m.0, m.1, λ own. forward-getx at h.wait (either-home (is_forward_getx at h.wait) m.2 own))

  pub nak-met : (cause : NakCause) → meets_row home.sizes number share src (msg.Nak line cause) ≡ true → is_outstanding (want_on home.sizes proc.want line) ≡ true
  unfolding meets_row meets header_in
  nak-met cause e = (and_parts (is_outstanding (want_on home.sizes proc.want line)) _ e).0
