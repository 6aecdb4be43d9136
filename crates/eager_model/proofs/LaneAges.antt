-- Two ways to tell the ages of the messages in a lane are one, where they agree on what is under way.
use Rattle.std.proofs.Common.{◌≡◌, ℕ, Bool, true, false, cond, ◌==◌, ◌++◌, [], ◌∷◌, map, refl, ap, sym, ◌∙◌, Option, Some, None}
use Rattle.eager_model.specs.Types.{Class, Request, Reply, Want}
use Rattle.op_model.specs.Operations.{Words}
use Rattle.op_model.specs.Messages.{Content, Get, GetX, FwdGet, FwdGetX, Inv, Wb, Rpl, Put, PutX, Nak, InvAck, ShWb, FAck, Nakc}
use Rattle.op_model.specs.Lines.{Copy}
use Rattle.line_invariant.specs.Good.{Status, Carrier, Resting, Asking, AskingX, Granted, Forwarded, Answered, Leaving, NotLeaving, WritesBack, Hints, Duty, NoDuty, Told, Acked, ToGive, Returned, Handed, Refused, IsCarried, expected, leaving_part, asking_part, answer_part, reply_part, told_part, is_put, is_write_answer, is_write_back}
use Rattle.eager_model.proofs.Maps.{map-append, both-parts}

-- a message with words
abbrev pub has_age : Content → Bool
has_age (Put words) = true
has_age (PutX words) = true
has_age (Wb words) = true
has_age (ShWb words) = true
has_age _ = false

-- an owner's words are under way to the home
abbrev pub is_returned : Duty → Bool
is_returned (Returned words) = true
is_returned _ = false

one : (x y : ℕ) → x ≡ y → x ∷ [] ≡ y ∷ []
one x y e = ap (λ n. n ∷ []) e

module _ (f g : Content → ℕ) (plain : (c : Content) → has_age c ≡ false → f c ≡ g c) where
  same-leaving : (leaves : Leaving) → (is_write_back leaves ≡ true → (w : Words) → f (Wb w) ≡ g (Wb w)) → map f (leaving_part leaves) ≡ map g (leaving_part leaves)
  same-leaving NotLeaving h = refl
  same-leaving (WritesBack w) h = one _ _ (h refl w)
  same-leaving Hints h = one _ _ (plain Rpl refl)

  same-asking : (carries : Carrier) → map f (asking_part carries) ≡ map g (asking_part carries)
  same-asking Resting = refl
  same-asking Asking = one _ _ (plain Get refl)
  same-asking AskingX = one _ _ (plain GetX refl)
  same-asking Granted = refl
  same-asking (Forwarded write) = refl
  same-asking (Answered from content) = refl

  same-told : (duty : Duty) → map f (told_part duty) ≡ map g (told_part duty)
  same-told NoDuty = refl
  same-told Told = one _ _ (plain Inv refl)
  same-told Acked = refl
  same-told (ToGive true r) = one _ _ (plain (FwdGetX r) refl)
  same-told (ToGive false r) = one _ _ (plain (FwdGet r) refl)
  same-told (Returned w) = refl
  same-told Handed = refl
  same-told Refused = refl

  same-reply : (duty : Duty) → (is_returned duty ≡ true → (w : Words) → f (ShWb w) ≡ g (ShWb w)) → map f (reply_part duty) ≡ map g (reply_part duty)
  same-reply NoDuty h = refl
  same-reply Told h = refl
  same-reply Acked h = one _ _ (plain InvAck refl)
  same-reply (ToGive write r) h = refl
  same-reply (Returned w) h = one _ _ (h refl w)
  same-reply Handed h = one _ _ (plain FAck refl)
  same-reply Refused h = one _ _ (plain Nakc refl)

  same-content : (want : Option Want) (copy : Copy) (from : ℕ) (content : Content) → IsCarried want copy (Answered from content) →
      (is_put (Answered from content) ≡ true → (w : Words) → f (Put w) ≡ g (Put w)) → (is_write_answer (Answered from content) ≡ true → (w : Words) → f (PutX w) ≡ g (PutX w)) → f content ≡ g content
  same-content None copy from content c h k = cc
  same-content (Some want) copy from (Put w) c h k = h refl w
  same-content (Some want) copy from (PutX w) c h k = k refl w
  same-content (Some want) copy from (Nak cause) c h k = plain (Nak cause) refl
  same-content (Some want) copy from Get c h k = plain Get refl
  same-content (Some want) copy from GetX c h k = plain GetX refl
  same-content (Some want) copy from (FwdGet r) c h k = plain (FwdGet r) refl
  same-content (Some want) copy from (FwdGetX r) c h k = plain (FwdGetX r) refl
  same-content (Some want) copy from Inv c h k = plain Inv refl
  same-content (Some want) copy from (Wb w) c h k = absurd c.1
  same-content (Some want) copy from Rpl c h k = plain Rpl refl
  same-content (Some want) copy from InvAck c h k = plain InvAck refl
  same-content (Some want) copy from (ShWb w) c h k = absurd c.1
  same-content (Some want) copy from FAck c h k = plain FAck refl
  same-content (Some want) copy from Nakc c h k = plain Nakc refl

  same-answer : (a : ℕ) (want : Option Want) (copy : Copy) (carries : Carrier) → IsCarried want copy carries →
      (is_put carries ≡ true → (w : Words) → f (Put w) ≡ g (Put w)) → (is_write_answer carries ≡ true → (w : Words) → f (PutX w) ≡ g (PutX w)) → map f (answer_part a carries) ≡ map g (answer_part a carries)
  same-answer a want copy Resting c h k = refl
  same-answer a want copy Asking c h k = refl
  same-answer a want copy AskingX c h k = refl
  same-answer a want copy Granted c h k = refl
  same-answer a want copy (Forwarded write) c h k = refl
  same-answer a want copy (Answered from content) c h k = go (a == from)
    where
      go : (b : Bool) → map f (cond b (content ∷ []) []) ≡ map g (cond b (content ∷ []) [])
      go true = one _ _ (same-content want copy from content c h k)
      go false = refl

  -- the whole lane
  pub same-lane : (home : ℕ) (status : ℕ → Status) (a b : ℕ) (want : Option Want) (copy : Copy) → IsCarried want copy (status b).carrier →
      (is_write_back (status a).leaving ≡ true → (w : Words) → f (Wb w) ≡ g (Wb w)) → (is_returned (status a).duty ≡ true → (w : Words) → f (ShWb w) ≡ g (ShWb w)) →
      (is_put (status b).carrier ≡ true → (w : Words) → f (Put w) ≡ g (Put w)) → (is_write_answer (status b).carrier ≡ true → (w : Words) → f (PutX w) ≡ g (PutX w)) →
      (class : Class) → map f (expected home status a b class) ≡ map g (expected home status a b class)
  same-lane home status a b want copy carried leaves returns puts gives Request = request (b == home) (a == home)
    where
      request : (at_home from_home : Bool) →
          map f (cond at_home (leaving_part (status a).leaving ++ asking_part (status a).carrier) (cond from_home (told_part (status b).duty) []))
          ≡ map g (cond at_home (leaving_part (status a).leaving ++ asking_part (status a).carrier) (cond from_home (told_part (status b).duty) []))
      request true from_home =
          map-append f (leaving_part (status a).leaving) (asking_part (status a).carrier)
          ∙ both-parts (same-leaving (status a).leaving leaves) (same-asking (status a).carrier)
          ∙ sym (map-append g (leaving_part (status a).leaving) (asking_part (status a).carrier))
      request false true = same-told (status b).duty
      request false false = refl
  same-lane home status a b want copy carried leaves returns puts gives Reply = reply (b == home)
    where
      behind : (at_home : Bool) → map f (cond at_home (reply_part (status a).duty) []) ≡ map g (cond at_home (reply_part (status a).duty) [])
      behind true = same-reply (status a).duty returns
      behind false = refl

      reply : (at_home : Bool) → map f (answer_part a (status b).carrier ++ cond at_home (reply_part (status a).duty) []) ≡ map g (answer_part a (status b).carrier ++ cond at_home (reply_part (status a).duty) [])
      reply at_home =
          map-append f (answer_part a (status b).carrier) (cond at_home (reply_part (status a).duty) [])
          ∙ both-parts (same-answer a want copy (status b).carrier carried puts gives) (behind at_home)
          ∙ sym (map-append g (answer_part a (status b).carrier) (cond at_home (reply_part (status a).duty) []))
