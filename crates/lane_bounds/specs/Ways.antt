-- Which way a message goes: to the home of its line or from it.
use Rattle.std.specs.Prelude.{◌≡◌, ℕ}
use Rattle.line_map.specs.Sizes.{Sizes, home_of}
use Rattle.op_model.specs.declared.messages.Msg.{Msg}
use Rattle.op_model.specs.Messages.{Content, Get, GetX, FwdGet, FwdGetX, Inv, Wb, Rpl, Put, PutX, Nak, InvAck, ShWb, FAck, Nakc, msg_line, msg_content}

-- A request, what an eviction sends and what is due to a home go to it; what a home sets going comes from it. An answer comes
-- from the home or from an owner
abbrev pub IsWay : (home src dst : ℕ) → Content → Type 0
IsWay home src dst Get = dst ≡ home
IsWay home src dst GetX = dst ≡ home
IsWay home src dst (FwdGet requester) = src ≡ home
IsWay home src dst (FwdGetX requester) = src ≡ home
IsWay home src dst Inv = src ≡ home
IsWay home src dst (Wb words) = dst ≡ home
IsWay home src dst Rpl = dst ≡ home
IsWay home src dst (Put words) = Unit {0}
IsWay home src dst (PutX words) = Unit {0}
IsWay home src dst (Nak cause) = Unit {0}
IsWay home src dst InvAck = dst ≡ home
IsWay home src dst (ShWb words) = dst ≡ home
IsWay home src dst FAck = dst ≡ home
IsWay home src dst Nakc = dst ≡ home

-- a message is on a way that it goes, by the home of its line
abbrev pub IsOnWay : Sizes → (src dst : ℕ) → Msg → Type 0
IsOnWay sizes src dst m = IsWay (home_of sizes (msg_line m)) src dst (msg_content m)
