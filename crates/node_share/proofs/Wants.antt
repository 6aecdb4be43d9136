-- What a node has begun, on the line of a row; and what handlers tell of the operations that are served and done.
use Rattle.std.proofs.Common.{◌≡◌, ℕ, Bool, true, false, cond, ◌==◌, List, [], append-nil, slice_get, Option, Some, None, refl, sym, ap, ◌∙◌}
use Rattle.std.proofs.lemmas.Bool.{eqb-true, eq-eqb, not-true}
use Rattle.line_map.specs.Sizes.{Sizes, line_of}
use Rattle.op_model.specs.declared.operations.Op.{Op}
use Rattle.op_model.specs.declared.state.Want.{Want}
use Rattle.op_model.specs.Operations.{Words, is_load, entry_of, after_op}
use Rattle.op_model.specs.Lines.{Copy, Absent, Shared, Exclusive, NoService, Own, For, is_empty, is_outstanding}
use Rattle.op_model.specs.Shares.{want_on, want_after, is_set_empty, copy_of, copy_in, Headers}
use Rattle.op_model.specs.Tables.Processor.{serves}
use Rattle.op_model.specs.Tables.Remote.{waits_load, waits_write}
use Rattle.op_model.specs.Events.Node.{NodeOutcome}
use Rattle.op_model.specs.Programs.{IsProgramOf}
use Rattle.cpu_cache.specs.Effects.{served_of, words_done, entry_at, done_of, effect_of, nothing, own_effect, load_by}
use Rattle.cpu_cache.specs.declared.effects.Served.TheVariants as served
use Rattle.cpu_cache.specs.Caches.{CacheView, is_set_free, is_set_taken}
use Rattle.cpu_cache.specs.Processors.{ProcView}
use Rattle.cpu_cache.proofs.Public.{none_in_free, not_taken}
use Rattle.msg_words.specs.SendList.{SendList}
use Rattle.node_share.specs.Parts.{share_of, sent, copy_done}

pub sent-none : (out : SendList) → out ≡ sent out []
sent-none out = λ i. record { list = sym (append-nil out.list) i; room = out.room }

-- the operation that is begun is on the line where a row finds it
module _ (sizes : Sizes) (wanted : Option Want) (line : ℕ) (want : Want) (is : wanted ≡ Some want) where
  on-some : want_on sizes wanted line ≡ cond (line_of sizes want.op.word == line) (Some want) None
  on-some = ap (λ w. want_on sizes w line) is

  pub on-line : is_outstanding (want_on sizes wanted line) ≡ true → line_of sizes want.op.word ≡ line
  on-line waits = by (line_of sizes want.op.word == line) refl (ap is_outstanding (sym on-some) ∙ waits)
    where
      by : (b : Bool) → (line_of sizes want.op.word == line) ≡ b → is_outstanding (cond b (Some want) None) ≡ true → line_of sizes want.op.word ≡ line
      by true e w = eqb-true (line_of sizes want.op.word) line e
      by false e w = cc

  module _ (on : line_of sizes want.op.word ≡ line) where
    test : (line_of sizes want.op.word == line) ≡ true
    test = eq-eqb (line_of sizes want.op.word) line on

    pub want-is : want_on sizes wanted line ≡ Some want
    want-is = on-some ∙ ap (λ b. cond b (Some want) None) test

    -- and it is begun no more once a row has ended it
    pub want-gone : want_after sizes wanted line None ≡ None
    want-gone = ap (λ w. want_after sizes w line None) is ∙ ap (λ b. cond b None (Some want)) test

-- what is begun and is a load, or a write
pub load-is : (wanted : Option Want) (want : Want) → wanted ≡ Some want → waits_load wanted ≡ true → is_load want.op.kind ≡ true
load-is wanted want is waits = ap waits_load (sym is) ∙ waits

pub write-is : (wanted : Option Want) (want : Want) → wanted ≡ Some want → waits_write wanted ≡ true → is_load want.op.kind ≡ false
write-is wanted want is waits = not-true (is_load want.op.kind) (ap waits_write (sym is) ∙ waits)

pub some-waits : (wanted : Option Want) → is_outstanding wanted ≡ true → (want : Want) × (wanted ≡ Some want)
some-waits None e = cc
some-waits (Some want) e = (want, refl)

-- a copy that a write takes is exclusive, one that a load takes shared
pub done-write : (op : Op) (words : Words) → is_load op.kind ≡ false → copy_done op words ≡ Exclusive (after_op op words)
done-write op words write = ap (λ b. cond b (Shared words) (Exclusive (after_op op words))) write

pub done-load : (op : Op) (words : Words) → is_load op.kind ≡ true → copy_done op words ≡ Shared words
done-load op words load = ap (λ b. cond b (Shared words) (Exclusive (after_op op words))) load

-- the set of the line is free, by the share and by the cache
module _ (sizes : Sizes) (proc : ProcView) (cache : CacheView) (headers : Headers) (line : ℕ) (same : cache.sizes ≡ sizes) (alone : is_set_empty sizes (share_of proc cache.copies headers) line ≡ true) where
  pub set-free : is_set_free cache line ≡ true
  unfolding copy_of
  set-free = ap (λ z. is_set_free (record { sizes = z; copies = cache.copies }) line) same ∙ alone

  pub set-untaken : is_set_taken cache line ≡ false
  set-untaken = not_taken cache line set-free

  pub set-absent : is_empty (copy_in cache.copies line) ≡ true
  set-absent = none_in_free cache line line set-free refl

  pub set-unserved : (op : Op) → serves op (copy_in cache.copies line) ≡ false
  set-unserved op = by (copy_in cache.copies line) set-absent
    where
      by : (copy : Copy) → is_empty copy ≡ true → serves op copy ≡ false
      by Absent e = refl
      by (Shared words) e = cc
      by (Exclusive words) e = cc

-- what a row serves and does, as it is told
module _ (node : ℕ) (program : List Op) (place : ℕ) (brought : Words) (out : NodeOutcome) where
  pub effect-none : out.served ≡ NoService → out.done ≡ false → nothing ≡ effect_of node program place brought out
  effect-none none undone = λ i. record { served = served_of node place (sym none i); done = done_of node program place (sym undone i) (words_done (sym none i) brought) }

  pub effect-for : (other : ℕ) (words : Words) → out.served ≡ For other words → out.done ≡ false → load_by other words ≡ effect_of node program place brought out
  effect-for other words sent undone = λ i. record { served = served_of node place (sym sent i); done = done_of node program place (sym undone i) (words_done (sym sent i) brought) }

  pub effect-own : (sizes : Sizes) (op : Op) (words : Words) → IsProgramOf sizes node program → slice_get program place ≡ Some op → out.served ≡ Own op words → out.done ≡ true →
      own_effect (entry_of op.node op.index op words) ≡ effect_of node program place brought out
  effect-own sizes op words are next own done =
      let at = are place op next in
      (λ i. own_effect (entry_of (at.of_node i) (at.at_index i) op words))
      ∙ (λ i. record { served = served.Own (entry_of node place op words); done = entry_at node place words (sym next i) })
      ∙ (λ i. record { served = served_of node place (sym own i); done = done_of node program place (sym done i) (words_done (sym own i) brought) })

  -- the node's own load, which was served before, is done on the words that are brought
  pub effect-load : (sizes : Sizes) (op : Op) → IsProgramOf sizes node program → slice_get program place ≡ Some op → out.served ≡ NoService → out.done ≡ true →
      record { served = served.Nothing; done = Some (entry_of op.node op.index op brought) } ≡ effect_of node program place brought out
  effect-load sizes op are next none done =
      let at = are place op next in
      (λ i. record { served = served.Nothing; done = Some (entry_of (at.of_node i) (at.at_index i) op brought) })
      ∙ (λ i. record { served = served.Nothing; done = entry_at node place brought (sym next i) })
      ∙ (λ i. record { served = served_of node place (sym none i); done = done_of node program place (sym done i) (words_done (sym none i) brought) })
