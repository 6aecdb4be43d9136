-- Sums over the entries of a map, and over the messages of a lane.
-- A value that is put changes the sum by one term. A lane weighs at most what its lines have, since its messages are those of its
-- lines, and each line's are few: by induction on the lines, the messages of the first one taken out.
use Rattle.std.proofs.Common.{◌≡◌, ◌≢◌, ℕ, ◌+◌, ◌≤◌, Bool, true, false, cond, ◌==◌, T, List, [], ◌∷◌, Option, Some, None, refl, arith, ap, sym, ◌∙◌, subst}
use Rattle.std.proofs.lemmas.Bool.Decides.{nat_tests}
use Rattle.std.proofs.lemmas.List.Sums.{sum_by-cons}
use Rattle.std.specs.List.{sum_by}
use Rattle.std.specs.Ordering.{nat_cmp}
use Rattle.std.specs.Cmp.{nat_cmp_total}
use Rattle.std.specs.FinMap as fin
use Rattle.std.specs.FinMap.{find, put, is_sorted}
use Rattle.std.specs.FinMap.Entries.{below_all}
use Rattle.op_model.specs.declared.messages.Msg.{Msg}
use Rattle.op_model.specs.Messages.{Content, msg_content, msg_line}
use Rattle.one_history.specs.Project.{of_line}
use Rattle.one_history.proofs.Public.{of_line-behind, of_line-front}

abbrev pub amount : {X : Type 0} → (X → ℕ) → Option X → ℕ
amount f None = 0
amount f (Some x) = f x

-- the sum of the values
abbrev pub over : {X : Type 0} → (X → ℕ) → List (ℕ × X) → ℕ
over f es = sum_by (λ e. f e.1) es

pub over-cons : {X : Type 0} (f : X → ℕ) (e : ℕ × X) (es : List (ℕ × X)) → over f (e ∷ es) ≡ f e.1 + over f es
over-cons f e es = sum_by-cons (λ x. f x.1) e es

below-none : {X : Type 0} (f : X → ℕ) (x k : ℕ) (es : List (ℕ × X)) → k ≤ x → T (below_all nat_cmp x es) → amount f (find nat_cmp k es) ≡ 0
below-none f x k [] le h = refl
below-none f x k (e ∷ es) le h = let t = below-none f x k es le in grind (arith, nat_tests)

-- the sum after a value is put
over-put : {X : Type 0} (f : X → ℕ) (k : ℕ) (v : X) (es : List (ℕ × X)) → T (is_sorted nat_cmp es) → over f (put nat_cmp k v es) + amount f (find nat_cmp k es) ≡ over f es + f v
over-put f k v [] h = grind arith
over-put f k v (e ∷ es) h =
    let ih = over-put f k v es in
    let none = below-none f e.0 k es in
    let a = over-cons f e es in
    let b = over-cons f (k, v) (e ∷ es) in
    let c = over-cons f (e.0, v) es in
    let d = over-cons f e (put nat_cmp k v es) in
    grind (arith, nat_tests)

pub over-insert : {X : Type 0} (f : X → ℕ) (m : fin.FinMap nat_cmp X) (k : ℕ) (v : X) → over f (fin.entries (fin.insert m k v)) + amount f (fin.get m k) ≡ over f (fin.entries m) + f v
over-insert f m k v =
    let e = fin.entries-insert nat_cmp_total m k v in
    let g = fin.get-entries m k in
    let t = over-put f k v (fin.entries m) (fin.entries_sorted m) in
    rw (e, g) t

-- the messages of a lane, each with the weight of what it says
abbrev pub weighed : (Content → ℕ) → List Msg → ℕ
weighed w messages = sum_by (λ m. w (msg_content m)) messages

pub weighed-cons : (w : Content → ℕ) (m : Msg) (ms : List Msg) → weighed w (m ∷ ms) ≡ w (msg_content m) + weighed w ms
weighed-cons w m ms = sum_by-cons (λ x. w (msg_content x)) m ms

pub contents-cons : (w : Content → ℕ) (c : Content) (cs : List Content) → sum_by w (c ∷ cs) ≡ w c + sum_by w cs
contents-cons w c cs = sum_by-cons w c cs

-- the messages of all other lines
without : ℕ → List Msg → List Msg
without line [] = []
without line (m ∷ ms) = cond (msg_line m == line) (without line ms) (m ∷ without line ms)

split : (w : Content → ℕ) (line : ℕ) (ms : List Msg) → weighed w ms ≡ sum_by w (of_line line ms) + weighed w (without line ms)
unfolding without
split w line [] = refl
split w line (m ∷ ms) = go (msg_line m == line) (split w line ms) (weighed-cons w m ms) (contents-cons w (msg_content m) (of_line line ms)) (weighed-cons w m (without line ms))
  where
    go : (c : Bool) → weighed w ms ≡ sum_by w (of_line line ms) + weighed w (without line ms) → weighed w (m ∷ ms) ≡ w (msg_content m) + weighed w ms →
        sum_by w (msg_content m ∷ of_line line ms) ≡ w (msg_content m) + sum_by w (of_line line ms) → weighed w (m ∷ without line ms) ≡ w (msg_content m) + weighed w (without line ms) →
        weighed w (m ∷ ms) ≡ sum_by w (cond c (msg_content m ∷ of_line line ms) (of_line line ms)) + weighed w (cond c (without line ms) (m ∷ without line ms))
    go true rest whole first other = omega (arith, rest, whole, first)
    go false rest whole first other = omega (arith, rest, whole, other)

-- by the line of the first message: it is of this line, or of another
by-first : (P : Bool → Type 0) (q line : ℕ) → (q ≡ line → P true) → (q ≢ line → P false) → P (q == line)
by-first P q line same other = go (q == line) refl
  where
    go : (c : Bool) → (q == line) ≡ c → P c
    go true e = same (grind (arith, nat_tests))
    go false e = other (grind (arith, nat_tests))

without-same : (line : ℕ) (ms : List Msg) → of_line line (without line ms) ≡ []
unfolding without
without-same line [] = refl
without-same line (m ∷ ms) =
    by-first (λ c. of_line line (cond c (without line ms) (m ∷ without line ms)) ≡ []) (msg_line m) line (λ _. without-same line ms)
    (λ other. of_line-behind line m (without line ms) (λ e. other (sym e)) ∙ without-same line ms)

without-other : (line q : ℕ) (ms : List Msg) → q ≢ line → of_line q (without line ms) ≡ of_line q ms
unfolding without
without-other line q [] other = refl
without-other line q (m ∷ ms) other =
    by-first (λ c. of_line q (cond c (without line ms) (m ∷ without line ms)) ≡ of_line q (m ∷ ms)) (msg_line m) line
    (λ same. without-other line q ms other ∙ sym (of_line-behind q m ms (λ e. other (e ∙ same))))
    (λ _. go (msg_line m == q) (without-other line q ms other))
  where
    go : (c : Bool) → of_line q (without line ms) ≡ of_line q ms → cond c (msg_content m ∷ of_line q (without line ms)) (of_line q (without line ms)) ≡ cond c (msg_content m ∷ of_line q ms) (of_line q ms)
    go true e = ap (λ l. msg_content m ∷ l) e
    go false e = e

none-left : (w : Content → ℕ) (ms : List Msg) → ((line : ℕ) → sum_by w (of_line line ms) ≤ 0) → weighed w ms ≡ 0
none-left w [] h = refl
none-left w (m ∷ ms) h =
    let a = weighed-cons w m ms in
    let b = contents-cons w (msg_content m) (of_line (msg_line m) ms) in
    let t : sum_by w (msg_content m ∷ of_line (msg_line m) ms) ≤ 0 = subst (λ l. sum_by w l ≤ 0) (of_line-front m ms) (h (msg_line m)) in
    let first : w (msg_content m) ≡ 0 = omega (arith, t, b) in
    let rest : weighed w ms ≡ 0 = none-left w ms (λ line. later line (msg_line m == line) (h line)) in
    omega (arith, a, first, rest)
  where
    later : (line : ℕ) (c : Bool) → sum_by w (cond c (msg_content m ∷ of_line line ms) (of_line line ms)) ≤ 0 → sum_by w (of_line line ms) ≤ 0
    later line true t = let b = contents-cons w (msg_content m) (of_line line ms) in omega (arith, t, b)
    later line false t = t

-- a lane weighs at most what its lines have, where the messages of each line weigh at most what it has
pub spread : {X : Type 0} (f : X → ℕ) (w : Content → ℕ) (es : List (ℕ × X)) (ms : List Msg) → ((line : ℕ) → sum_by w (of_line line ms) ≤ amount f (find nat_cmp line es)) → weighed w ms ≤ over f es
spread f w [] ms h = let e = none-left w ms h in omega arith
spread f w (e ∷ es) ms h =
    let ih = spread f w es (without e.0 ms) (λ line. at line) in
    let here : sum_by w (of_line e.0 ms) ≤ f e.1 = let t = h e.0 in grind (arith, nat_tests) in
    let s = split w e.0 ms in
    let c = over-cons f e es in
    omega arith
  where
    at : (line : ℕ) → sum_by w (of_line line (without e.0 ms)) ≤ amount f (find nat_cmp line es)
    at line = go (line == e.0) refl
      where
        go : (c : Bool) → (line == e.0) ≡ c → sum_by w (of_line line (without e.0 ms)) ≤ amount f (find nat_cmp line es)
        go true same = let is : line ≡ e.0 = grind (arith, nat_tests) in let n = without-same e.0 ms in let n' : of_line line (without e.0 ms) ≡ [] = ap (λ l. of_line l (without e.0 ms)) is ∙ n in rw n' (omega arith)
        go false other = let off : line ≢ e.0 = grind (arith, nat_tests) in let n = without-other e.0 line ms off in let t = h line in rw n (grind (arith, nat_tests))
