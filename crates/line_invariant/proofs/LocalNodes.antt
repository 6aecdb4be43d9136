-- What holds of one node after what its own processor does, or another's write.
-- A write changes the line's words, and where one node holds the line no other has words of it.
use Rattle.std.proofs.Common.{◌≡◌, ◌≢◌, ℕ, Bool, true, false, cond, ◌==◌, ◌&&◌, not, refl, arith, ap, Option, None}
use Rattle.std.proofs.lemmas.Bool.Decides.{nat_tests}
use Rattle.line_invariant.specs.Types.{Op, Want, Nobody, Me, Node, EvictKind}
use Rattle.op_model.specs.declared.events.EvictKind.TheVariants as way
use Rattle.op_model.specs.Nodes.{listed}
use Rattle.op_model.specs.Operations.{Words, is_load, after_op}
use Rattle.op_model.specs.Messages.{PutX}
use Rattle.op_model.specs.Lines.{Copy, Absent, Shared, Exclusive, Header, without_shared, words_of, begun}
use Rattle.op_model.specs.Tables.Processor.{serves, done_on, fits}
use Rattle.line_invariant.specs.Good.{Status, Carrier, Resting, Asking, AskingX, Answered, Leaving, NotLeaving, WritesBack, Hints, Duty, NoDuty, ToGive, Handed, Role, MayShare, Bare, Holds, Waiting, Usual, ByForward, IsGoodNode, IsGoodHeader, IsHomeCarrier, IsCarried, IsFreshCopy, role_in, holds_in, Phase, Clean, HomeOwns, Owned, Called, Asked, SharedOut, HandedOn}
use Rattle.line_invariant.specs.Rows.{wanting}

pub after-load : (op : Op) (words : Words) → is_load op.kind ≡ true → after_op op words ≡ words
unfolding after_op
after-load op words load = simp load

-- an operation is begun
pub node-ask : (role : Role) (words : Words) (lists : Bool) (copy : Copy) (want : Option Want) (status : Status) (op : Op) (load : Bool) → IsGoodNode role words lists copy want status → want ≡ None → is_load op.kind ≡ load → serves op copy ≡ false →
    IsGoodNode role words lists (cond load copy (without_shared copy)) (begun op) (record status { carrier = cond load Asking AskingX })
node-ask role words lists copy want status op true good free load not_served = grind arith
node-ask role words lists copy want status op false good free load not_served = grind arith

-- a node that isn't listed has no copy
pub node-unlisted : (words next : Words) (lists : Bool) (copy : Copy) (want : Option Want) (status : Status) → IsGoodNode (MayShare NoDuty) words lists copy want status → lists ≡ false → IsGoodNode (Bare Usual NoDuty) next lists copy want status
node-unlisted words next lists copy want status good isnt = grind arith

abbrev pub leaving_by : EvictKind → Copy → Leaving
leaving_by way.Wb copy = WritesBack (words_of copy)
leaving_by way.Hint copy = Hints
leaving_by way.Silent copy = NotLeaving

-- a copy leaves
pub node-leave : (role : Role) (words : Words) (lists : Bool) (copy : Copy) (want : Option Want) (status : Status) (kind : EvictKind) → IsGoodNode role words lists copy want status → fits false kind copy ≡ true →
    IsGoodNode role words lists Absent want (record status { leaving = leaving_by kind copy }) × (status.carrier ≡ Resting) × (status.leaving ≡ NotLeaving)
node-leave role words lists copy want status kind good fit = (grind arith, grind arith, grind arith)

-- who holds the line writes
pub node-writes : (role : Role) (words : Words) (lists : Bool) (copy : Copy) (has : Words) (want : Option Want) (status : Status) (op : Op) → IsGoodNode role words lists copy want status → copy ≡ Exclusive has →
    (holds_in role ≡ true) × (has ≡ words) × IsGoodNode role (after_op op words) lists (Exclusive (after_op op has)) want status
node-writes role words lists copy has want status op good is = (grind arith, grind arith, grind arith)

pub bare-fresh : (waiting : Waiting) (duty : Duty) (words next : Words) (lists : Bool) (copy : Copy) (want : Option Want) (status : Status) → IsGoodNode (Bare waiting duty) words lists copy want status → IsGoodNode (Bare waiting duty) next lists copy want status
bare-fresh waiting duty words next lists copy want status good = grind arith

role-bare : (home : ℕ) (words next : Words) (phase : Phase) (p n : ℕ) → holds_in (role_in home words phase p) ≡ true → n ≢ p →
    (waiting : Waiting) × (duty : Duty) × (role_in home words phase n ≡ Bare waiting duty) × (role_in home next phase n ≡ Bare waiting duty)
role-bare home words next Clean p n holds other = absurd (grind arith)
role-bare home words next HomeOwns p n holds other = absurd (grind arith)
role-bare home words next (Owned o) p n holds other = (Usual, NoDuty, grind (arith, nat_tests), grind (arith, nat_tests))
role-bare home words next (Called Nobody) p n holds other = absurd (grind arith)
role-bare home words next (Called Me) p n holds other = absurd (grind arith)
role-bare home words next (Called (Node g)) p n holds other = absurd (grind (arith, nat_tests))
role-bare home words next (Asked w r o f h) p n holds other = (cond ((n == r) && not f) (ByForward w) Usual, NoDuty, grind (arith, nat_tests), grind (arith, nat_tests))
role-bare home words next (SharedOut r o) p n holds other = absurd (grind arith)
role-bare home words next (HandedOn r o h) p n holds other = (Usual, cond (n == o) (cond (r == home) NoDuty Handed) NoDuty, grind (arith, nat_tests), grind (arith, nat_tests))

-- and then no other node has the line's words
pub held-alone : (home : ℕ) (words next : Words) (phase : Phase) (p n : ℕ) → holds_in (role_in home words phase p) ≡ true → n ≢ p → (lists : Bool) (copy : Copy) (want : Option Want) (status : Status) →
    IsGoodNode (role_in home words phase n) words lists copy want status → IsGoodNode (role_in home next phase n) next lists copy want status
held-alone home words next phase p n holds other lists copy want status good =
    let bare = role-bare home words next phase p n holds other in
    rw bare.3 (bare-fresh bare.0 bare.1 words next lists copy want status (rw bare.2 at good))

-- nor has memory, nor the home
pub held-header : (home : ℕ) (words next : Words) (phase : Phase) (p : ℕ) → holds_in (role_in home words phase p) ≡ true → (header : Header) (copy : Copy) → IsGoodHeader home phase words header copy → IsGoodHeader home phase next header copy
held-header home words next Clean p holds header copy good = absurd (grind arith)
held-header home words next HomeOwns p holds header copy good = absurd (grind arith)
held-header home words next (Owned o) p holds header copy good = good
held-header home words next (Called Nobody) p holds header copy good = absurd (grind arith)
held-header home words next (Called Me) p holds header copy good = absurd (grind arith)
held-header home words next (Called (Node g)) p holds header copy good = absurd (grind (arith, nat_tests))
held-header home words next (Asked w r o f true) p holds header copy good = good
held-header home words next (Asked w r o f false) p holds header copy good = absurd (grind (arith, nat_tests))
held-header home words next (SharedOut r o) p holds header copy good = absurd (grind arith)
held-header home words next (HandedOn r o true) p holds header copy good = good
held-header home words next (HandedOn r o false) p holds header copy good = absurd (grind (arith, nat_tests))

pub held-home : (home : ℕ) (words next : Words) (phase : Phase) (p : ℕ) → p ≢ home → holds_in (role_in home words phase p) ≡ true → (carries : Carrier) → IsHomeCarrier home words phase carries → IsHomeCarrier home next phase carries
held-home home words next Clean p apart holds carries good = good
held-home home words next HomeOwns p apart holds carries good = good
held-home home words next (Owned o) p apart holds carries good = good
held-home home words next (Called Nobody) p apart holds carries good = good
held-home home words next (Called Me) p apart holds carries good = good
held-home home words next (Called (Node g)) p apart holds carries good = good
held-home home words next (Asked w r o f h) p apart holds carries good = good
held-home home words next (SharedOut r o) p apart holds carries good = absurd (grind arith)
held-home home words next (HandedOn r o h) p apart holds carries good = grind (arith, nat_tests)

pub done-load : (op : Op) (copy : Copy) → is_load op.kind ≡ true → done_on op copy ≡ copy
done-load op Absent load = refl
done-load op (Shared words) load = refl
done-load op (Exclusive words) load = ap Exclusive (after-load op words load)

pub role-same : (home : ℕ) (words next : Words) (phase : Phase) (p : ℕ) → holds_in (role_in home words phase p) ≡ true → role_in home next phase p ≡ role_in home words phase p
role-same home words next Clean p holds = refl
role-same home words next HomeOwns p holds = refl
role-same home words next (Owned o) p holds = refl
role-same home words next (Called Nobody) p holds = refl
role-same home words next (Called Me) p holds = refl
role-same home words next (Called (Node g)) p holds = refl
role-same home words next (Asked w r o f h) p holds = refl
role-same home words next (SharedOut r o) p holds = absurd (grind arith)
role-same home words next (HandedOn r o h) p holds = refl

-- the phase of a line that the home owns
pub home-owns : (home : ℕ) (phase : Phase) (words : Words) (header : Header) (copy : Copy) (has : Words) → IsGoodHeader home phase words header copy → copy ≡ Exclusive has → (phase ≡ HomeOwns) × (has ≡ words)
home-owns home Clean words header copy has good is = absurd (grind arith)
home-owns home HomeOwns words header copy has good is = (refl, grind arith)
home-owns home (Owned o) words header copy has good is = absurd (grind arith)
home-owns home (Called g) words header copy has good is = absurd (grind arith)
home-owns home (Asked true r o f h) words header copy has good is = absurd (grind arith)
home-owns home (Asked false r o f h) words header copy has good is = absurd (grind arith)
home-owns home (SharedOut r o) words header copy has good is = absurd (grind arith)
home-owns home (HandedOn r o h) words header copy has good is = absurd (grind arith)

-- the home's shared copy may go in any phase
pub header-drop : (home : ℕ) (phase : Phase) (words : Words) (header : Header) (copy : Copy) (has : Words) → IsGoodHeader home phase words header copy → copy ≡ Shared has → IsGoodHeader home phase words (record header { local = false }) Absent
header-drop home Clean words header copy has good is = (good.0, good.1, good.2, tt, tt)
header-drop home (Called g) words header copy has good is = (good.0, good.1, good.2, good.3, good.4, tt, tt, good.7)
header-drop home HomeOwns words header copy has good is = absurd (grind arith)
header-drop home (Owned o) words header copy has good is = absurd (grind arith)
header-drop home (Asked true r o f h) words header copy has good is = absurd (grind arith)
header-drop home (Asked false r o f h) words header copy has good is = absurd (grind arith)
header-drop home (SharedOut r o) words header copy has good is = absurd (grind arith)
header-drop home (HandedOn r o h) words header copy has good is = absurd (grind arith)

pub carried-empty : (want : Option Want) (copy : Copy) (carries : Carrier) → IsCarried want copy carries → IsCarried want Absent carries
carried-empty want copy carries c = grind arith

pub may-keep : (words : Words) (copy : Copy) → IsFreshCopy (Unit {0}) words copy → IsFreshCopy (Nobody ≡ Nobody) words copy
may-keep words Absent h = tt
may-keep words (Shared has) h = (h.0, refl)
may-keep words (Exclusive has) h = h

-- who is given the line writes
pub node-putx : (role : Role) (words : Words) (lists : Bool) (copy : Copy) (want : Option Want) (status : Status) (op : Op) (marked : Bool) (from : ℕ) (has : Words) → IsGoodNode role words lists copy want status → want ≡ wanting op marked → status.carrier ≡ Answered from (PutX has) →
    (holds_in role ≡ true) × (has ≡ words) × IsGoodNode role (after_op op words) lists (Exclusive (after_op op has)) None (record status { carrier = Resting })
node-putx role words lists copy want status op marked from has good wants answered = (grind arith, grind arith, grind arith)

pub bare-any : (duty : Duty) (words next : Words) (lists listed : Bool) (copy : Copy) (want : Option Want) (status : Status) → IsGoodNode (Bare Usual duty) words lists copy want status → IsGoodNode (Bare Usual duty) next listed copy want status
bare-any duty words next lists listed copy want status good = grind arith

-- the owner has to give the line
pub node-asked : (words : Words) (lists : Bool) (copy : Copy) (want : Option Want) (status : Status) (write : Bool) (r : ℕ) → IsGoodNode (Holds NoDuty) words lists copy want status → IsGoodNode (Holds (ToGive write r)) words lists copy want (record { carrier = status.carrier; leaving = status.leaving; duty = ToGive write r })
node-asked words lists copy want status write r good = grind arith

-- a node whose copy serves has begun nothing on the line
pub serving-rests : (op : Op) (want : Option Want) (copy : Copy) (carries : Carrier) → IsCarried want copy carries → serves op copy ≡ true → carries ≡ Resting
serving-rests op want copy carries c serve = grind arith

pub exclusive-rests : (want : Option Want) (copy : Copy) (carries : Carrier) (has : Words) → IsCarried want copy carries → copy ≡ Exclusive has → carries ≡ Resting
exclusive-rests want copy carries has c is = grind arith
