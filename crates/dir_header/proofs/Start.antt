-- A home at the start: its table of headers is that of the start of a run, in which no line is pending and no list holds a link.
use Rattle.std.proofs.Common.{◌≡◌, ℕ, zero, suc, ◌+◌, ◌*◌, ◌%◌, ◌<◌, ◌≤◌, true, false, cond, ◌↔◌, ◌⊎◌, List, [], None, inl, inr, length, replicate, refl, sym, ap, ◌∙◌, arith, get_or, unwrap_or}
use Rattle.std.specs.Prelude.{is_some, sum_by}
use Rattle.std.specs.List.{range_with_len}
use Rattle.std.proofs.lemmas.Bool.{cases_lt, true≢false}
use Rattle.std.proofs.lemmas.List.{get_or-replicate, length-replicate}
use Rattle.std.proofs.lemmas.List.Sums.{sum_by-cons}
use Rattle.std.specs.FinMap as fin
use Rattle.line_map.specs.Sizes.{Sizes, home_of}
use Rattle.op_model.specs.Nodes.{none, listed, count, listed-none, count-none}
use Rattle.op_model.specs.Operations.{Words}
use Rattle.op_model.specs.Lines.{Header, is_pending}
use Rattle.op_model.specs.Shares.{first_header, first_headers, links_in, header_in}
use Rattle.op_model.specs.Run.Runs.{start_share}
use Rattle.dir_header.specs.Sharers.{Directory, Charge, Linked, held_by, held_in}
use Rattle.dir_header.specs.Budgets.{BudgetView}
use Rattle.dir_header.specs.HomeSides.{HomeView, Fields, header_at, IsFresh}
use Rattle.dir_header.specs.Standings.{HoldersView, standing_in, stands_victim, stands_pending, standing_of}
use Rattle.dir_header.specs.declared.header.Standing.TheVariants.{Linkless}
use Rattle.dir_header.specs.HomeParts.{table, blank, line_header, home_view, IsHomeSide, IsCounted}
use Rattle.dir_header.proofs.Directories.{held-none}
use Rattle.dir_header.proofs.Sums.{sum-first}
use Rattle.dir_header.proofs.Tables.{get-before, get-after, get-within, table-alike, table-first, line_from, line_to, line_own}

sum-empty : (charge : Charge) (n : ℕ) → sum_by (held_by charge) (replicate n none) ≡ 0
sum-empty charge zero = refl
sum-empty charge (suc n) = sum_by-cons (held_by charge) none (replicate n none) ∙ (let a = held-none charge in let b = sum-empty charge n in omega arith)

list-empty : (n m q : ℕ) → listed (get_or (replicate n none) m none) q ≡ false
list-empty zero m q = listed-none q
list-empty (suc n) zero q = listed-none q
list-empty (suc n) (suc m) q = list-empty n m q

module _ {D : Type 0} (sizes : Sizes) (node : ℕ) (dir : Directory) (d : D) (headers : List Fields) (memory : List Words) (numbered : node < sizes.nodes) (fresh : IsFresh sizes dir)
    (headers-are : headers ≡ replicate sizes.lines blank) (memory-is : memory ≡ replicate sizes.lines (replicate sizes.words 0)) (some : 0 < sizes.lines) where
  abbrev view : HomeView D
  view = home_view dir sizes node headers memory d

  abbrev f : ℕ → Header
  f line = line_header headers memory dir.lists (line % sizes.lines)

  first-at : (m : ℕ) → m < sizes.lines → line_header headers memory dir.lists m ≡ first_header sizes
  first-at m below =
      (λ i. line_header (headers-are i) (memory-is i) (fresh.lists i) m)
      ∙ (λ i. Rattle.dir_header.specs.HomeParts.joined (get_or-replicate sizes.lines m blank blank below i) (get_or-replicate sizes.lines m none none below i) (get_or-replicate sizes.lines m (replicate sizes.words 0) [] below i))

  headers-first : view.headers ≡ first_headers sizes (range_with_len (node * sizes.lines) sizes.lines)
  headers-first =
      table-alike (λ line. first_header sizes) f (node * sizes.lines) sizes.lines (λ q from to. first-at (q % sizes.lines) (omega arith))
      ∙ table-first sizes (node * sizes.lines) sizes.lines

  pub start-returns : view ≡ record { sizes = sizes; node = node; charge = dir.charge; dir = d; headers = (start_share sizes node).headers }
  start-returns = λ i. record { sizes = sizes; node = node; charge = dir.charge; dir = d; headers = headers-first i }

  header-first : (line : ℕ) → home_of sizes line ≡ node → header_at view line ≡ first_header sizes
  unfolding header_in
  header-first line own = ap (λ o. unwrap_or o (first_header sizes)) (get-within f (node * sizes.lines) sizes.lines line (line_from sizes node some line own) (line_to sizes node some line own)) ∙ first-at (line % sizes.lines) (omega arith)

  nothing : (g : Header → ℕ) → g (first_header sizes) ≡ 0 → sum_by (λ e. g e.1) (fin.entries view.headers) ≡ 0
  nothing g off = ap (λ hs. sum_by (λ e. g e.1) (fin.entries hs)) headers-first ∙ sum-first g sizes off (range_with_len (node * sizes.lines) sizes.lines)

  linkless : standing_in dir.charge (first_header sizes) ≡ Linkless
  linkless = linkless-at (held_by dir.charge none) (held-none dir.charge)
    where
      linkless-at : (links : ℕ) → links ≡ 0 → standing_of (first_header sizes).wait links ≡ Linkless
      linkless-at links e = ap (standing_of (first_header sizes).wait) e

  own-lines : (line : ℕ) → is_some (fin.get view.headers line) ≡ true ↔ home_of sizes line ≡ node
  own-lines line = (
    (λ there. at there (cases_lt line (node * sizes.lines)) (cases_lt line (node * sizes.lines + sizes.lines))),
    (λ own. ap is_some (get-within f (node * sizes.lines) sizes.lines line (line_from sizes node some line own) (line_to sizes node some line own))),
  )
    where
      no : is_some (fin.get view.headers line) ≡ true → fin.get view.headers line ≡ None → ⊥
      no there e = true≢false (sym there ∙ ap is_some e)

      at : is_some (fin.get view.headers line) ≡ true → (line < node * sizes.lines) ⊎ (node * sizes.lines ≤ line) → (line < node * sizes.lines + sizes.lines) ⊎ (node * sizes.lines + sizes.lines ≤ line) → home_of sizes line ≡ node
      at there (inl before) to = absurd (no there (get-before f (node * sizes.lines) sizes.lines line before))
      at there (inr from) (inr past) = absurd (no there (get-after f (node * sizes.lines) sizes.lines line past))
      at there (inr from) (inl to) = line_own sizes node some line from to

  pub start-kept : (budget : BudgetView) (holders : HoldersView) → budget ≡ record { used = 0; limit = sizes.pending } → holders ≡ record { victims = none; pending = 0 } → sizes.lines ≤ 4096 → sizes.nodes ≤ 64 → sizes.pending ≤ 64 →
      IsHomeSide dir sizes node headers memory d budget holders
  start-kept budget holders budget-is holders-are most_lines most_nodes most_pending = record {
    some_lines = some;
    most_lines = most_lines;
    most_nodes = most_nodes;
    most_pending = most_pending;
    fields = ap length headers-are ∙ length-replicate sizes.lines blank;
    bodies = ap length memory-is ∙ length-replicate sizes.lines (replicate sizes.words 0);
    home = record {
      numbered = numbered;
      charge = refl;
      links = fresh.links;
      bound = fresh.bound;
      lines = ap length fresh.lists ∙ length-replicate sizes.lines none;
      dir_kept = record {
        fits = let e = empty in omega arith;
        below = λ m q there. absurd (true≢false (sym there ∙ ap (λ ls. listed (get_or ls m none) q) fresh.lists ∙ list-empty sizes.lines m q));
      };
      own = own-lines;
      lists = λ line own. ap (λ h. h.list) (header-first line own) ∙ sym (ap (λ ls. get_or ls (line % sizes.lines) none) fresh.lists ∙ get_or-replicate sizes.lines (line % sizes.lines) none none (omega arith));
      below = λ line q own there. absurd (true≢false (sym there ∙ ap (λ h. listed h.list q) (header-first line own) ∙ listed-none q));
      acks = λ line own waits. ap (λ h. h.acks) (header-first line own) ∙ sym (ap (λ h. count h.list) (header-first line own) ∙ count-none);
      width = λ line own. ap (λ h. length h.memory) (header-first line own) ∙ length-replicate sizes.words 0;
      few = let e = nothing (λ h. cond (is_pending h) 1 0) refl in omega arith;
      held = λ linked. nothing links_in (held-none Linked) ∙ sym empty;
    };
    counted = record {
      used = ap (λ b. b.used) budget-is ∙ sym (nothing (λ h. cond (is_pending h) 1 0) refl);
      limit = ap (λ b. b.limit) budget-is;
      victims = λ line own. ap (λ h. listed h.victims (line % sizes.lines)) holders-are ∙ listed-none (line % sizes.lines) ∙ sym (ap (λ h. stands_victim (standing_in dir.charge h)) (header-first line own) ∙ ap stands_victim linkless);
      few = λ m there. absurd (true≢false (sym there ∙ ap (λ h. listed h.victims m) holders-are ∙ listed-none m));
      pending = ap (λ h. h.pending) holders-are ∙ sym (nothing (λ h. cond (stands_pending (standing_in dir.charge h)) 1 0) (ap (λ s. cond (stands_pending s) 1 0) linkless));
    };
  }
    where
      empty : held_in dir ≡ 0
      empty = ap (sum_by (held_by dir.charge)) fresh.lists ∙ sum-empty dir.charge sizes.lines
