-- Messages that are put into an outbox one by one come to the ends of its lanes, and each finds room where each has space.
use Rattle.std.proofs.Common.{◌≡◌, ℕ, zero, suc, ◌+◌, ◌<◌, Bool, true, false, cond, ◌==◌, ◌&&◌, List, [], ◌∷◌, ◌++◌, length, take, drop, refl, ap, arith, sym, subst, ◌∙◌, Some}
use Rattle.std.specs.Prelude.{slice_get}
use Rattle.std.proofs.lemmas.List.{append-nil, append_assoc}
use Rattle.std.proofs.lemmas.Bool.Decides.{nat_tests}
use Rattle.op_model.specs.declared.events.Class.{Class}
use Rattle.op_model.specs.declared.messages.Msg.{Msg}
use Rattle.op_model.specs.Messages.{same_class, msg_class}
use Rattle.op_model.specs.Events.Step.{to_lane}
use Rattle.op_model.specs.Run.Bounds.{lane_bound}
use Rattle.op_model.proofs.Public.{eqb-swap, same_class-is, take-next}
use Rattle.one_history.proofs.Public.{to_lane-append}
use Rattle.out_space.specs.Boxes.{BoxState, IsBox, waiting, with_waiting, waiting-with_waiting, sizes-with_waiting}
use Rattle.node_box.specs.Outgoing.{HasSpace, HasRoomFor, IsPut}

-- one message at the end of its lane
at_end : (box : BoxState) (dst : ℕ) (m : Msg) (other : ℕ) (k : Class) (to of : Bool) → (dst == other) ≡ to → same_class k (msg_class m) ≡ of
    → cond (to && of) (waiting box dst (msg_class m) ++ m ∷ []) (waiting box other k) ≡ waiting box other k ++ cond (to && of) (m ∷ []) []
at_end box dst m other k true true to of =
    let same : dst ≡ other = grind (arith, nat_tests) in
    let class : k ≡ msg_class m = same_class-is k (msg_class m) of in
    λ i. waiting box (same i) (sym class i) ++ m ∷ []
at_end box dst m other k true false to of = sym (append-nil (waiting box other k))
at_end box dst m other k false of' to of = sym (append-nil (waiting box other k))

pub put_at_end : (old new : BoxState) (dst : ℕ) (m : Msg) → IsBox old → dst < old.sizes.nodes → new ≡ with_waiting old dst (msg_class m) (waiting old dst (msg_class m) ++ m ∷ []) → IsPut old new ((dst, m) ∷ [])
put_at_end old new dst m kept below is =
    record {
      machine = ap (λ b. b.sizes) is ∙ sizes-with_waiting old dst (msg_class m) (waiting old dst (msg_class m) ++ m ∷ []);
      lanes = λ other k. ap (λ b. waiting b other k) is
          ∙ (waiting-with_waiting old dst (msg_class m) (waiting old dst (msg_class m) ++ m ∷ []) other k kept below
          ∙ (ap (λ t. cond (t && same_class k (msg_class m)) (waiting old dst (msg_class m) ++ m ∷ []) (waiting old other k)) (eqb-swap other dst)
          ∙ at_end old dst m other k (dst == other) (same_class k (msg_class m)) refl refl));
    }

-- nothing was put yet
pub put_none : (box : BoxState) → IsPut box box []
put_none box = record { machine = refl; lanes = λ dst class. sym (append-nil (waiting box dst class)) }

-- and then one more
pub put_next : (first now new : BoxState) (sends : List (ℕ × Msg)) (i : ℕ) (send : ℕ × Msg) → slice_get sends i ≡ Some send → IsPut first now (take i sends) → IsPut now new (send ∷ []) → IsPut first new (take (i + 1) sends)
put_next first now new sends i send is before one =
    record {
      machine = one.machine ∙ before.machine;
      lanes = λ dst class. one.lanes dst class
          ∙ (ap (λ l. l ++ to_lane dst class (send ∷ [])) (before.lanes dst class)
          ∙ (append_assoc (waiting first dst class) (to_lane dst class (take i sends)) (to_lane dst class (send ∷ []))
          ∙ ap (λ l. waiting first dst class ++ l) (sym (to_lane-append dst class (take i sends) (send ∷ [])) ∙ ap (to_lane dst class) (sym (take-next sends i send is)))));
    }

-- a list is cut at one of its things
cut_at : {A : Type 0} (xs : List A) (i : ℕ) (x : A) → slice_get xs i ≡ Some x → xs ≡ take i xs ++ x ∷ drop (suc i) xs
cut_at [] i x is = cc
cut_at (y ∷ xs) zero x is = let e : y ≡ x = cc in ap (λ z. z ∷ xs) e
cut_at (y ∷ xs) (suc i) x is = ap (λ l. y ∷ l) (cut_at xs i x is)

-- each message has its space when it comes to it
pub put_space : (first now : BoxState) (sends : List (ℕ × Msg)) (i : ℕ) (send : ℕ × Msg) → HasRoomFor first sends → slice_get sends i ≡ Some send → IsPut first now (take i sends)
    → (send.0 < now.sizes.nodes) × (length (waiting now send.0 (msg_class send.1)) < lane_bound now.sizes (msg_class send.1))
put_space first now sends i send fits is before =
    let space : HasSpace first (take i sends) send.0 send.1 = fits (take i sends) (drop (suc i) sends) send.0 send.1 (cut_at sends i send is) in
    let class = msg_class send.1 in
    let P : ℕ → Type 0 = λ n. n < lane_bound now.sizes class in (
      subst (λ z. send.0 < z) (ap (λ s. s.nodes) (sym before.machine)) space.to,
      subst P (ap length (sym (before.lanes send.0 class))) (subst (λ z. length (waiting first send.0 class ++ to_lane send.0 class (take i sends)) < lane_bound z class) (sym before.machine) space.room),
    )
