-- The histories and the headers of both lines at the end of the run, and what each node did.
use Rattle.std.proofs.Common.{◌≡◌, ℕ, Bool, true, false, ◌==◌, [], ◌∷◌, map, refl, ap, ◌∙◌, arith}
use Rattle.std.proofs.lemmas.Bool.Decides.{nat_tests}
use Rattle.op_model.specs.Shares.{header_of}
use Rattle.op_model.specs.Run.History.{entries_by}
use Rattle.op_model.proofs.Public.{eqb-swap}
use Rattle.row_examples.specs.Situations.{owned_by}
use Rattle.row_examples.specs.Types.{Load, Store}
use Rattle.eager_model.specs.Runs.{Past}
use Rattle.eager_model.specs.History.{aged_history}
use Rattle.eager_run.specs.Worked.{worked, end, done, done_at, done_of}
use Rattle.eager_run.proofs.Shares.{line_x, line_y, header-on}
use Rattle.eager_run.proofs.TheRun.{past_24, end-is-last}

pub first-history : aged_history worked.sizes end 0
    ≡ done_at 0 (done 1 0 Load 0 0) ∷ done_at 0 (done 2 0 Load 0 0) ∷ done_at 0 (done 2 3 Load 0 0) ∷ done_at 1 (done 1 2 Store 0 1) ∷ []
first-history = ap (λ (past : Past). aged_history worked.sizes past 0) end-is-last

pub second-history : aged_history worked.sizes end 1
    ≡ done_at 0 (done 1 1 Load 1 0) ∷ done_at 0 (done 2 1 Load 1 0) ∷ done_at 0 (done 1 3 Load 1 0) ∷ done_at 1 (done 2 2 Store 1 1) ∷ []
second-history = ap (λ (past : Past). aged_history worked.sizes past 1) end-is-last

pub first-owned : header_of worked.sizes (end.state.share 0) 0 ≡ owned_by 1 (0 ∷ [])
first-owned = ap (λ (past : Past). header_of worked.sizes (past.state.share 0) 0) end-is-last ∙ header-on line_x (owned_by 1 (0 ∷ [])) (owned_by 2 (0 ∷ []))

pub second-owned : header_of worked.sizes (end.state.share 0) 1 ≡ owned_by 2 (0 ∷ [])
second-owned = ap (λ (past : Past). header_of worked.sizes (past.state.share 0) 1) end-is-last ∙ header-on line_y (owned_by 2 (0 ∷ [])) (owned_by 1 (0 ∷ []))

-- which node an entry is of
by-tests : (node : ℕ) (is_one is_two : Bool) → (node == 1) ≡ is_one → (node == 2) ≡ is_two → (1 == node) ≡ is_one → (2 == node) ≡ is_two →
    entries_by node (map (λ aged. aged.entry) past_24.served) ≡ done_of node
by-tests node true true a b c d = let wrong : ◌≡◌ {A = ℕ} 1 2 = grind (arith, nat_tests) in absurd (omega arith)
by-tests node true false a b c d = simp (a, b, c, d) refl
by-tests node false true a b c d = simp (a, b, c, d) refl
by-tests node false false a b c d = simp (a, b, c, d) refl

pub served-by : (node : ℕ) → entries_by node (map (λ aged. aged.entry) end.served) ≡ done_of node
served-by node =
    ap (λ (past : Past). entries_by node (map (λ aged. aged.entry) past.served)) end-is-last
    ∙ by-tests node (node == 1) (node == 2) refl refl (eqb-swap 1 node) (eqb-swap 2 node)
