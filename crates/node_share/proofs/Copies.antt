-- A cache, call by call: the copy of one line is put, once or again, or stays.
use Rattle.std.proofs.Common.{◌≡◌, ◌≢◌, ℕ, Bool, true, false, cond, ◌==◌, is_some, Option, Some, None, unwrap_or, refl, sym, ap, ◌∙◌, arith}
use Rattle.std.proofs.lemmas.Bool.Decides.{nat_tests}
use Rattle.std.specs.FinMap as fin
use Rattle.op_model.specs.Lines.{Copy, Absent, Shared, Exclusive, is_empty}
use Rattle.op_model.specs.Shares.{put_copy, Copies, copy_in}
use Rattle.cpu_cache.specs.Caches.{CacheView, IsDirectMapped}
use Rattle.cpu_cache.proofs.Public.{get-put_copy, same_copies, stored}
use Rattle.node_share.specs.Parts.{AreCopies}

stored-read : (copy : Copy) → unwrap_or (stored copy) Absent ≡ copy
stored-read Absent = refl
stored-read (Shared words) = refl
stored-read (Exclusive words) = refl

-- the copy that was put last is the line's
pub copy-put : (copies : Copies) (line : ℕ) (copy : Copy) → copy_in (put_copy copies line copy) line ≡ copy
copy-put copies line copy =
    let own : (line == line) ≡ true = grind (arith, nat_tests) in
    ap (λ o. unwrap_or o Absent) (get-put_copy copies line copy line ∙ ap (λ b. cond b (stored copy) (fin.get copies line)) own) ∙ stored-read copy

pub copy-put_other : (copies : Copies) (line q : ℕ) (copy : Copy) → q ≢ line → copy_in (put_copy copies line copy) q ≡ copy_in copies q
copy-put_other copies line q copy other =
    let off : (q == line) ≡ false = grind (arith, nat_tests) in
    ap (λ o. unwrap_or o Absent) (get-put_copy copies line copy q ∙ ap (λ b. cond b (stored copy) (fin.get copies q)) off)

pub copy-put_again : (copies : Copies) (line : ℕ) (first second : Copy) → put_copy (put_copy copies line first) line second ≡ put_copy copies line second
copy-put_again copies line first second =
    same_copies _ _ (λ q. get-put_copy (put_copy copies line first) line second q ∙ at (q == line) q refl ∙ sym (get-put_copy copies line second q))
  where
    at : (b : Bool) (q : ℕ) → (q == line) ≡ b → cond (q == line) (stored second) (fin.get (put_copy copies line first) q) ≡ cond (q == line) (stored second) (fin.get copies q)
    at true q e = ap (λ b. cond b (stored second) (fin.get (put_copy copies line first) q)) e ∙ sym (ap (λ b. cond b (stored second) (fin.get copies q)) e)
    at false q e = ap (λ o. cond (q == line) (stored second) o) (get-put_copy copies line first q ∙ ap (λ b. cond b (stored first) (fin.get copies q)) e)

-- a copy stays
pub copy-kept : (copies : Copies) (line : ℕ) → AreCopies copies → put_copy copies line (copy_in copies line) ≡ copies
copy-kept copies line are =
    same_copies _ _ (λ q. get-put_copy copies line (copy_in copies line) q ∙ at (q == line) q refl)
  where
    kept : (o : Option Copy) → (is_some o ≡ true → is_empty (unwrap_or o Absent) ≡ false) → stored (unwrap_or o Absent) ≡ o
    kept None each = refl
    kept (Some Absent) each = let e = each refl in cc
    kept (Some (Shared words)) each = refl
    kept (Some (Exclusive words)) each = refl

    at : (b : Bool) (q : ℕ) → (q == line) ≡ b → cond b (stored (copy_in copies line)) (fin.get copies q) ≡ fin.get copies q
    at true q e = let same : line ≡ q = grind (arith, nat_tests) in kept (fin.get copies line) (are line) ∙ ap (fin.get copies) same
    at false q e = refl

pub cache-copies : (cache : CacheView) → IsDirectMapped cache → AreCopies cache.copies
cache-copies cache is = is.held
