-- The run, event by event: the past after each, and that each does what is said of it.
use Rattle.std.proofs.Common.{◌≡◌, ℕ, true, false, List, [], ◌∷◌, ◌++◌, Some, Option, unwrap_or, refl, sym, ap, ◌∙◌, arith}
use Rattle.std.proofs.lemmas.Bool.Decides.{nat_tests}
use Rattle.op_model.specs.Nodes.{unlist, listings, same_nodes}
use Rattle.op_model.specs.Lines.{Copy, Absent, Shared, Exclusive, Header}
use Rattle.row_examples.specs.Situations.{nodes, clean, owned_by}
use Rattle.eager_model.specs.Types.{Event}
use Rattle.eager_model.specs.Examples.{draining}
use Rattle.eager_model.specs.Runs.{Past, run, start, past_after}
use Rattle.eager_run.specs.Worked.{worked, steps, loading, end}
use Rattle.eager_run.proofs.Shares.{line_x, line_y, sizes, copies_of, headers_of}
use Rattle.eager_run.proofs.HomeActs.{both_listed}
use Rattle.eager_run.proofs.Steps.{Leads, none-more, one-more, comes-to}
use Rattle.eager_run.proofs.Events.{programs, zeros, asks_to_load, asks_to_store, loads_its_copy, has_loaded, has_stored, gives_up, shares_with, grants_to, has_drained, issue-load, issue-store, hit-load, take-put, take-putx, take-inv, share-line, grant-line, drain-line}

-- copies and headers of the run
abbrev held : Copy
held = Shared zeros

abbrev stored : Copy
stored = Exclusive (1 ∷ [])

abbrev listing : List ℕ → Header
listing list = clean list zeros

abbrev x_drains : Header
x_drains = draining 1 false true (2 ∷ []) zeros

without-1 : unlist (nodes both_listed) 1 ≡ nodes (2 ∷ [])
without-1 = same_nodes _ _ (λ q. grind (arith, nat_tests, listings))

without-2 : unlist (nodes both_listed) 2 ≡ nodes (1 ∷ [])
without-2 = same_nodes _ _ (λ q. grind (arith, nat_tests, listings))

abbrev past_0 : Past
past_0 = start sizes

-- node 1 loads x and y, and then node 2 does
abbrev past_1 : Past
past_1 = past_after sizes past_0 (asks_to_load line_x 1 0 Absent)

abbrev past_2 : Past
past_2 = past_after sizes past_1 (shares_with line_x 1 [] (listing []))

abbrev past_3 : Past
past_3 = past_after sizes past_2 (has_loaded line_x 1 0 Absent)

abbrev past_4 : Past
past_4 = past_after sizes past_3 (asks_to_load line_y 1 1 held)

abbrev past_5 : Past
past_5 = past_after sizes past_4 (shares_with line_y 1 [] (listing (1 ∷ [])))

abbrev past_6 : Past
past_6 = past_after sizes past_5 (has_loaded line_y 1 1 held)

abbrev past_7 : Past
past_7 = past_after sizes past_6 (asks_to_load line_x 2 0 Absent)

abbrev past_8 : Past
past_8 = past_after sizes past_7 (shares_with line_x 2 (1 ∷ []) (listing (1 ∷ [])))

abbrev past_9 : Past
past_9 = past_after sizes past_8 (has_loaded line_x 2 0 Absent)

abbrev past_10 : Past
past_10 = past_after sizes past_9 (asks_to_load line_y 2 1 held)

abbrev past_11 : Past
past_11 = past_after sizes past_10 (shares_with line_y 2 (1 ∷ []) (listing both_listed))

abbrev past_12 : Past
past_12 = past_after sizes past_11 (has_loaded line_y 2 1 held)

-- both ask to store, and each has its line granted
abbrev past_13 : Past
past_13 = past_after sizes past_12 (asks_to_store line_x 1 2 held)

abbrev past_14 : Past
past_14 = past_after sizes past_13 (asks_to_store line_y 2 2 held)

abbrev past_15 : Past
past_15 = past_after sizes past_14 (grants_to line_x 1 2 (listing both_listed))

abbrev past_16 : Past
past_16 = past_after sizes past_15 (grants_to line_y 2 1 x_drains)

-- each stores, and loads its old copy of the other line
abbrev past_17 : Past
past_17 = past_after sizes past_16 (has_stored line_x 1 2 held)

abbrev past_18 : Past
past_18 = past_after sizes past_17 (loads_its_copy line_y 1 3 stored)

abbrev past_19 : Past
past_19 = past_after sizes past_18 (has_stored line_y 2 2 held)

abbrev past_20 : Past
past_20 = past_after sizes past_19 (loads_its_copy line_x 2 3 stored)

-- the invalidations are taken, and acknowledged
abbrev past_21 : Past
past_21 = past_after sizes past_20 (gives_up line_y 1 4 stored)

abbrev past_22 : Past
past_22 = past_after sizes past_21 (gives_up line_x 2 4 stored)

abbrev past_23 : Past
past_23 = past_after sizes past_22 (has_drained line_y 2 1 x_drains)

abbrev pub past_24 : Past
past_24 = past_after sizes past_23 (has_drained line_x 1 2 (owned_by 2 zeros))

-- these events lead there
loads-lead : (last : Past) (events : List Event) → Leads sizes programs past_12 events last → Leads sizes programs past_0 (loading 1 ++ loading 1 ++ loading 2 ++ loading 2 ++ events) last
unfolding copies_of headers_of
loads-lead last events rest =
    (one-more sizes programs past_0 last _ _ _ (issue-load past_0 line_x 1 0 Absent refl refl refl)
    (one-more sizes programs past_1 last _ _ _ (share-line past_1 line_x 1 [] (listing []) refl refl refl)
    (one-more sizes programs past_2 last _ _ _ (take-put past_2 line_x 1 0 Absent refl refl refl)
    (one-more sizes programs past_3 last _ _ _ (issue-load past_3 line_y 1 1 held refl refl refl)
    (one-more sizes programs past_4 last _ _ _ (share-line past_4 line_y 1 [] (listing (1 ∷ [])) refl refl refl)
    (one-more sizes programs past_5 last _ _ _ (take-put past_5 line_y 1 1 held refl refl refl)
    (one-more sizes programs past_6 last _ _ _ (issue-load past_6 line_x 2 0 Absent refl refl refl)
    (one-more sizes programs past_7 last _ _ _ (share-line past_7 line_x 2 (1 ∷ []) (listing (1 ∷ [])) refl refl refl)
    (one-more sizes programs past_8 last _ _ _ (take-put past_8 line_x 2 0 Absent refl refl refl)
    (one-more sizes programs past_9 last _ _ _ (issue-load past_9 line_y 2 1 held refl refl refl)
    (one-more sizes programs past_10 last _ _ _ (share-line past_10 line_y 2 (1 ∷ []) (listing both_listed) refl refl refl)
    (one-more sizes programs past_11 last _ _ _ (take-put past_11 line_y 2 1 held refl refl refl)
    rest))))))))))))

leads : Leads sizes programs past_0 steps past_24
unfolding steps
leads =
    loads-lead past_24 _
    (one-more sizes programs past_12 past_24 _ _ _ (issue-store past_12 line_x 1 2 held refl refl refl)
    (one-more sizes programs past_13 past_24 _ _ _ (issue-store past_13 line_y 2 2 held refl refl refl)
    (one-more sizes programs past_14 past_24 _ _ _ (grant-line past_14 line_x 1 2 (listing both_listed) refl refl without-1 refl)
    (one-more sizes programs past_15 past_24 _ _ _ (grant-line past_15 line_y 2 1 x_drains refl refl without-2 refl)
    (one-more sizes programs past_16 past_24 _ _ _ (take-putx past_16 line_x 1 2 held refl refl refl)
    (one-more sizes programs past_17 past_24 _ _ _ (hit-load past_17 line_y 1 3 stored refl refl refl)
    (one-more sizes programs past_18 past_24 _ _ _ (take-putx past_18 line_y 2 2 held refl refl refl)
    (one-more sizes programs past_19 past_24 _ _ _ (hit-load past_19 line_x 2 3 stored refl refl refl)
    (one-more sizes programs past_20 past_24 _ _ _ (take-inv past_20 line_y 1 4 stored refl refl refl)
    (one-more sizes programs past_21 past_24 _ _ _ (take-inv past_21 line_x 2 4 stored refl refl refl)
    (one-more sizes programs past_22 past_24 _ _ _ (drain-line past_22 line_y 2 1 x_drains refl refl refl)
    (one-more sizes programs past_23 past_24 _ _ _ (drain-line past_23 line_x 1 2 (owned_by 2 zeros) refl refl refl)
    (none-more sizes programs past_24)))))))))))))

comes-to-last : run worked steps ≡ Some past_24
comes-to-last = comes-to sizes programs past_0 past_24 steps leads

pub end-is-last : end ≡ past_24
unfolding end
end-is-last = ap (λ (o : Option Past). unwrap_or o (start worked.sizes)) comes-to-last

pub ran : run worked steps ≡ Some end
ran = comes-to-last ∙ ap (λ (past : Past). Some past) (sym end-is-last)
