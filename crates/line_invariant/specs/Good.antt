-- What holds of a line at each moment: its phase, and for each node what is under way.
use Rattle.std.specs.Prelude.{◌≡◌, ℕ, ◌<◌, Bool, true, false, if◌then◌else◌, not, ◌&&◌, ◌||◌, List, [], ◌∷◌, ◌++◌, ◌==◌, ◌≢◌, Option, Some, None}
use Rattle.line_invariant.specs.Types.{Want, Grantee, Nobody, Me, Node, Idle, Invalidate, ForwardGet, ForwardGetX, Class, Request, Reply}
use Rattle.op_model.specs.Nodes.{Nodes, listed, enlist, count, none, only}
use Rattle.op_model.specs.Operations.{Words, is_load}
use Rattle.op_model.specs.Messages.{Content, Get, GetX, FwdGet, FwdGetX, Inv, Wb, Rpl, Put, PutX, Nak, InvAck, ShWb, FAck, Nakc}
use Rattle.op_model.specs.Lines.{Copy, Absent, Shared, Exclusive, Header, is_empty, is_exclusive}
use Rattle.line_invariant.specs.Line.{Line, Lanes}

-- The phases. Clean: memory has the line's words, and nodes may share them. HomeOwns, Owned: the home's cache, or a node, has the only copy.
-- Called: the listed nodes give their copies up, for a grantee. Asked: an owner is to answer a forward, for a write or not, of which requester; whether
-- it has refused, and whether it still holds the line. SharedOut: an owner has shared the line. HandedOn: an owner has handed it to the requester, who holds it still or has given it back
pub data Phase : Type 0 where
  Clean : Phase
  HomeOwns : Phase
  Owned : (owner : ℕ) → Phase
  Called : Grantee → Phase
  Asked : (write : Bool) → (requester owner : ℕ) → (refused holds : Bool) → Phase
  SharedOut : (requester owner : ℕ) → Phase
  HandedOn : (requester owner : ℕ) → (holds : Bool) → Phase

-- where the operation that a node has begun stands
pub data Carrier : Type 0 where
  Resting : Carrier
  Asking : Carrier
  AskingX : Carrier
  Granted : Carrier
  Forwarded : (write : Bool) → Carrier
  Answered : (from : ℕ) → Content → Carrier

-- the eviction of a node that is under way
pub data Leaving : Type 0 where
  NotLeaving : Leaving
  WritesBack : Words → Leaving
  Hints : Leaving

-- what the home has set going at a node: the request that is under way to it, or its reply
pub data Duty : Type 0 where
  NoDuty : Duty
  Told : Duty
  Acked : Duty
  ToGive : (write : Bool) → (requester : ℕ) → Duty
  Returned : Words → Duty
  Handed : Duty
  Refused : Duty

-- what is under way for one node
pub record Status : Type 0 where
  pub carrier : Carrier
  pub leaving : Leaving
  pub duty : Duty

-- the messages that each of these has under way
abbrev pub leaving_part : Leaving → List Content
leaving_part NotLeaving = []
leaving_part (WritesBack words) = Wb words ∷ []
leaving_part Hints = Rpl ∷ []

abbrev pub asking_part : Carrier → List Content
asking_part Asking = Get ∷ []
asking_part AskingX = GetX ∷ []
asking_part _ = []

abbrev pub told_part : Duty → List Content
told_part Told = Inv ∷ []
told_part (ToGive write requester) = (if write then FwdGetX requester else FwdGet requester) ∷ []
told_part _ = []

abbrev pub reply_part : Duty → List Content
reply_part Acked = InvAck ∷ []
reply_part (Returned words) = ShWb words ∷ []
reply_part Handed = FAck ∷ []
reply_part Refused = Nakc ∷ []
reply_part _ = []

abbrev pub answer_part : ℕ → Carrier → List Content
answer_part source (Answered from content) = if source == from then content ∷ [] else []
answer_part source _ = []

-- the messages in each lane, told from what is under way
abbrev pub expected : ℕ → (ℕ → Status) → Lanes
expected home status a b Request =
    if b == home then leaving_part (status a).leaving ++ asking_part (status a).carrier
    else (if a == home then told_part (status b).duty else [])
expected home status a b Reply =
    answer_part a (status b).carrier ++ (if b == home then reply_part (status a).duty else [])

-- which answers a load has, and which a write
abbrev pub IsAnswerTo : Bool → Content → Type 0
IsAnswerTo load (Put words) = load ≡ true
IsAnswerTo load (PutX words) = load ≡ false
IsAnswerTo load (Nak cause) = Unit {0}
IsAnswerTo load _ = ⊥

-- an operation begun has one carrier, of its kind, and its line isn't cached
abbrev pub IsCarried : Option Want → Copy → Carrier → Type 0
IsCarried None copy carries = carries ≡ Resting
IsCarried (Some want) copy Resting = ⊥
IsCarried (Some want) copy Asking = (copy ≡ Absent) × (is_load want.op.kind ≡ true)
IsCarried (Some want) copy AskingX = (copy ≡ Absent) × (is_load want.op.kind ≡ false)
IsCarried (Some want) copy Granted = (copy ≡ Absent) × (is_load want.op.kind ≡ false)
IsCarried (Some want) copy (Forwarded write) = (copy ≡ Absent) × (is_load want.op.kind ≡ not write)
IsCarried (Some want) copy (Answered from content) = (copy ≡ Absent) × IsAnswerTo (is_load want.op.kind) content

-- an operation that is begun after an eviction stands behind it in the lane
abbrev pub IsBehind : Carrier → Type 0
IsBehind Resting = Unit {0}
IsBehind Asking = Unit {0}
IsBehind AskingX = Unit {0}
IsBehind _ = ⊥

-- what is evicted is gone
abbrev pub IsLeft : Leaving → Copy → Carrier → Type 0
IsLeft NotLeaving copy carries = Unit {0}
IsLeft _ copy carries = (copy ≡ Absent) × IsBehind carries

-- What a phase says of a node. It may share the line, is called, has no copy, or holds the line.
pub data Waiting : Type 0 where
  Usual : Waiting
  ByGrant : Waiting
  ByForward : (write : Bool) → Waiting

pub data Role : Type 0 where
  MayShare : Duty → Role
  Recalled : Role
  Bare : Waiting → Duty → Role
  Holds : Duty → Role

abbrev pub asked_role : Bool → Duty → Role
asked_role holds duty = if holds then Holds duty else Bare Usual duty

-- the role of a node in a phase
abbrev pub role_in : ℕ → Words → Phase → ℕ → Role
role_in home words Clean node = MayShare NoDuty
role_in home words HomeOwns node = Bare Usual NoDuty
role_in home words (Owned owner) node = if node == owner then Holds NoDuty else Bare Usual NoDuty
role_in home words (Called (Node grantee)) node = if node == grantee then Bare ByGrant NoDuty else Recalled
role_in home words (Called _) node = Recalled
role_in home words (Asked write requester owner refused holds) node =
    if node == owner then asked_role holds (if refused then Refused else ToGive write requester)
    else Bare (if (node == requester) && not refused then ByForward write else Usual) NoDuty
role_in home words (SharedOut requester owner) node =
    MayShare (if (node == owner) && not (requester == home) then Returned words else NoDuty)
role_in home words (HandedOn requester owner holds) node =
    if node == owner then Bare Usual (if requester == home then NoDuty else Handed)
    else asked_role (holds && (node == requester)) NoDuty

-- does a role hold the line
abbrev pub holds_in : Role → Bool
holds_in (Holds duty) = true
holds_in _ = false

-- a shared copy, or words under way to a load, may be had
abbrev pub May : Role → Bool → Duty → Type 0
May (MayShare duty) listed now = listed ≡ true
May Recalled listed now = now ≡ Told
May _ listed now = ⊥

abbrev pub IsDue : Bool → Duty → Type 0
IsDue listed NoDuty = listed ≡ false
IsDue listed Told = listed ≡ true
IsDue listed Acked = listed ≡ true
IsDue listed _ = ⊥

-- what is set going at a node is what its role says; a node that is called has it where it is listed
abbrev pub IsOnDuty : Role → Bool → Duty → Type 0
IsOnDuty (MayShare duty) listed now = now ≡ duty
IsOnDuty Recalled listed now = IsDue listed now
IsOnDuty (Bare waiting duty) listed now = now ≡ duty
IsOnDuty (Holds duty) listed now = now ≡ duty

abbrev pub IsUsual : Carrier → Type 0
IsUsual Granted = ⊥
IsUsual (Forwarded write) = ⊥
IsUsual _ = Unit {0}

-- only the roles that wait for a grant or a forward have an operation that stands there
abbrev pub IsWaiting : Role → Carrier → Type 0
IsWaiting (Bare ByGrant duty) carries = carries ≡ Granted
IsWaiting (Bare (ByForward write) duty) carries = carries ≡ Forwarded write
IsWaiting _ carries = IsUsual carries

abbrev pub is_write_answer : Carrier → Bool
is_write_answer (Answered from (PutX words)) = true
is_write_answer _ = false

abbrev pub is_write_back : Leaving → Bool
is_write_back (WritesBack words) = true
is_write_back _ = false

-- the words of a copy, of an answer and of a write-back are the line's
abbrev pub IsFreshCopy : Type 0 → Words → Copy → Type 0
IsFreshCopy MayHave words Absent = Unit {0}
IsFreshCopy MayHave words (Shared has) = (has ≡ words) × MayHave
IsFreshCopy MayHave words (Exclusive has) = has ≡ words

-- a load that isn't marked has the line's words, and may have them
abbrev pub IsFreshPut : Type 0 → Words → Bool → Words → Type 0
IsFreshPut MayHave words true has = Unit {0}
IsFreshPut MayHave words false has = (has ≡ words) × MayHave

abbrev pub IsFreshAnswer : Type 0 → Words → Option Want → Carrier → Type 0
IsFreshAnswer MayHave words (Some want) (Answered from (Put has)) = IsFreshPut MayHave words want.marked has
IsFreshAnswer MayHave words want (Answered from (PutX has)) = has ≡ words
IsFreshAnswer MayHave words want carries = Unit {0}

abbrev pub IsFreshLeaving : Words → Leaving → Type 0
IsFreshLeaving words (WritesBack has) = has ≡ words
IsFreshLeaving words _ = Unit {0}

-- What holds of a node that isn't the home, in its role: what is begun is carried, what is evicted is gone, the duty is the role's, the line is held in one place
-- (by the copy, by a PutX under way or by a write-back) just where the role holds it, and all words are the line's
pub record IsGoodNode (role : Role) (words : Words) (listed : Bool) (copy : Copy) (want : Option Want) (status : Status) : Type 0 where
  pub carried : IsCarried want copy status.carrier
  pub left : IsLeft status.leaving copy status.carrier
  pub duty : IsOnDuty role listed status.duty
  pub waiting : IsWaiting role status.carrier
  pub one_holds : (is_exclusive copy || is_write_answer status.carrier || is_write_back status.leaving) ≡ holds_in role
  pub fresh_copy : IsFreshCopy (May role listed status.duty) words copy
  pub fresh_answer : IsFreshAnswer (May role listed status.duty) words want status.carrier
  pub fresh_leaving : IsFreshLeaving words status.leaving

-- the nodes listed while a line is asked for: the owner, and a remote node that asks to load
abbrev pub asked_list : ℕ → Bool → ℕ → ℕ → Nodes
asked_list home write requester owner = if write || (requester == home) then only owner else enlist (only owner) requester

abbrev pub IsGrantee : ℕ → Grantee → Nodes → Type 0
IsGrantee home (Node node) list = (node ≢ home) × (listed list node ≡ false)
IsGrantee home _ list = Unit {0}

abbrev pub IsSharedOnly : Copy → Type 0
IsSharedOnly (Exclusive has) = ⊥
IsSharedOnly _ = Unit {0}

-- memory has the line's words where no node holds it
abbrev pub IsMemory : Bool → Words → Words → Type 0
IsMemory true words memory = Unit {0}
IsMemory false words memory = memory ≡ words

-- the header in each phase, with the home's own copy
abbrev pub IsGoodHeader : ℕ → Phase → Words → Header → Copy → Type 0
IsGoodHeader home Clean words header copy =
    (header.wait ≡ Idle) × (header.dirty ≡ false) × (header.memory ≡ words) × IsSharedOnly copy × IsFreshCopy (Unit {0}) words copy
IsGoodHeader home HomeOwns words header copy =
    (header.wait ≡ Idle) × (header.dirty ≡ true) × (header.list ≡ none) × (copy ≡ Exclusive words)
IsGoodHeader home (Owned owner) words header copy =
    (header.wait ≡ Idle) × (header.dirty ≡ true) × (header.list ≡ only owner) × (copy ≡ Absent) × (owner ≢ home)
IsGoodHeader home (Called grantee) words header copy =
    (header.wait ≡ Invalidate grantee) × (header.dirty ≡ false) × (header.memory ≡ words) × (0 < header.acks) × (header.acks ≡ count header.list)
    × IsSharedOnly copy × IsFreshCopy (grantee ≡ Nobody) words copy × IsGrantee home grantee header.list
IsGoodHeader home (Asked write requester owner refused holds) words header copy =
    (header.wait ≡ (if write then ForwardGetX requester else ForwardGet requester)) × (header.dirty ≡ holds) × IsMemory holds words header.memory
    × (header.list ≡ asked_list home write requester owner) × (copy ≡ Absent) × (owner ≢ home) × (requester ≢ owner)
IsGoodHeader home (SharedOut requester owner) words header copy =
    (header.wait ≡ ForwardGet requester) × (header.dirty ≡ true)
    × (header.list ≡ asked_list home false requester owner) × (copy ≡ Absent) × (owner ≢ home) × (requester ≢ owner)
IsGoodHeader home (HandedOn requester owner holds) words header copy =
    (header.wait ≡ ForwardGetX requester) × (header.dirty ≡ holds) × IsMemory holds words header.memory
    × (header.list ≡ only owner) × (copy ≡ Absent) × (owner ≢ home) × (requester ≢ owner) × (requester ≡ home → holds ≡ true)

-- where an operation of the home stands that the owner has refused: the Nak is under way, or has been taken
abbrev pub IsRefusal : ℕ → Carrier → Type 0
IsRefusal owner Resting = Unit {0}
IsRefusal owner (Answered from (Nak cause)) = from ≡ owner
IsRefusal owner _ = ⊥

-- at the home: does it ask itself, and was it refused
abbrev pub IsAskedBy : Bool → Bool → Bool → ℕ → Carrier → Type 0
IsAskedBy false refused write owner carries = carries ≡ Resting
IsAskedBy true false write owner carries = carries ≡ Forwarded write
IsAskedBy true true write owner carries = IsRefusal owner carries

-- where the home's own operation stands in each phase
abbrev pub IsHomeCarrier : ℕ → Words → Phase → Carrier → Type 0
IsHomeCarrier home words (Called Me) carries = carries ≡ Granted
IsHomeCarrier home words (Asked write requester owner refused holds) carries =
    IsAskedBy (requester == home) refused write owner carries
IsHomeCarrier home words (SharedOut requester owner) carries = carries ≡ (if requester == home then Answered owner (Put words) else Resting)
IsHomeCarrier home words (HandedOn requester owner holds) carries = carries ≡ (if requester == home then Answered owner (PutX words) else Resting)
IsHomeCarrier home words _ carries = carries ≡ Resting

-- what holds of the home's own copy and operation: it evicts without a message and owes itself none
pub record IsGoodHome (home : ℕ) (phase : Phase) (words : Words) (copy : Copy) (want : Option Want) (status : Status) : Type 0 where
  pub carried : IsCarried want copy status.carrier
  pub stays : status.leaving ≡ NotLeaving
  pub off_duty : status.duty ≡ NoDuty
  pub carrier : IsHomeCarrier home words phase status.carrier

-- are words for a load under way
abbrev pub is_put : Carrier → Bool
is_put (Answered from (Put words)) = true
is_put _ = false

-- What holds of a line: in its phase, and by what is under way for each node, the lanes are spelled, and the header, the home and each other node are as they should be.
-- A load was served and isn't done where a Put is under way for it
pub record IsGood (home : ℕ) (line : Line) : Type 0 where
  pub phase : Phase
  pub status : ℕ → Status
  pub lanes : (a b : ℕ) (class : Class) → line.lane a b class ≡ expected home status a b class
  pub header : IsGoodHeader home phase line.words line.header (line.copy home)
  pub local : line.header.local ≡ not (is_empty (line.copy home))
  pub unlisted : listed line.header.list home ≡ false
  pub at_home : IsGoodHome home phase line.words (line.copy home) (line.want home) (status home)
  pub nodes : (node : ℕ) → node ≢ home → IsGoodNode (role_in home line.words phase node) line.words (listed line.header.list node) (line.copy node) (line.want node) (status node)
  pub answered : (node : ℕ) → line.answered node ≡ is_put (status node).carrier
