-- What the crates above cite of a home: its headers are a node's share of the state, read by the same words; the header that was put
-- last at a line is the line's, and other lines keep theirs.
use Rattle.std.proofs.Common.{◌≡◌, ◌≢◌, ℕ, Bool, true, false, cond, ◌==◌, Some, refl, sym, ap, ◌∙◌, arith, unwrap_or}
use Rattle.std.proofs.lemmas.Bool.Decides.{nat_tests}
use Rattle.std.specs.Cmp.{nat_cmp_total}
use Rattle.std.specs.FinMap as fin
use Rattle.op_model.specs.Lines.{Header}
use Rattle.op_model.specs.Shares.{Share, first_header, header_of, room_of, header_in, Headers}
use Rattle.op_model.specs.Events.Node.{fits_victim}
use Rattle.op_model.proofs.Public.{get-put}
use Rattle.dir_header.specs.HomeSides.{HomeView, header_at, room_in, is_victim, with_header}

-- a header that is put where one was put before
pub put-put : (headers : Headers) (line : ℕ) (first second : Header) → fin.insert (fin.insert headers line first) line second ≡ fin.insert headers line second
put-put headers line first second = fin.same_map nat_cmp_total fin.nat_cmp-IsAntisymmetric _ _ (λ q. get-put (fin.insert headers line first) line second q ∙ at (q == line) q refl ∙ sym (get-put headers line second q))
  where
    at : (b : Bool) (q : ℕ) → (q == line) ≡ b → cond (q == line) (Some second) (fin.get (fin.insert headers line first) q) ≡ cond (q == line) (Some second) (fin.get headers q)
    at true q e = ap (λ b. cond b (Some second) (fin.get (fin.insert headers line first) q)) e ∙ sym (ap (λ b. cond b (Some second) (fin.get headers q)) e)
    at false q e = ap (λ o. cond (q == line) (Some second) o) (get-put headers line first q ∙ ap (λ b. cond b (Some first) (fin.get headers q)) e)

module _ {D : Type 0} (home : HomeView D) where
  pub header-put : (line : ℕ) (header : Header) → header_at (with_header home line header) line ≡ header
  unfolding header_in
  header-put line header =
      ap (λ o. unwrap_or o (first_header home.sizes)) (get-put home.headers line header line ∙ ap (λ b. cond b (Some header) (fin.get home.headers line)) (let own : (line == line) ≡ true = grind (arith, nat_tests) in own))

  pub header-put_other : (line other : ℕ) (header : Header) → other ≢ line → header_at (with_header home line header) other ≡ header_at home other
  unfolding header_in
  header-put_other line other header apart =
      ap (λ o. unwrap_or o (first_header home.sizes)) (get-put home.headers line header other ∙ ap (λ b. cond b (Some header) (fin.get home.headers other)) (let off : (other == line) ≡ false = grind (arith, nat_tests) in off))

  -- a share with these headers
  module _ (share : Share) (is : share.headers ≡ home.headers) where
    pub header-share : (line : ℕ) → header_of home.sizes share line ≡ header_at home line
    unfolding header_in
    header-share line = ap (λ hs. unwrap_or (fin.get hs line) (first_header home.sizes)) is

    pub room-share : room_of home.charge home.sizes share ≡ room_in home
    room-share = ap (λ hs. room_of home.charge home.sizes (record share { headers = hs })) is

    pub victim-share : (line : ℕ) → fits_victim home.charge home.sizes home.node share line ≡ is_victim home line
    unfolding header_in
    victim-share line = ap (λ hs. fits_victim home.charge home.sizes home.node (record share { headers = hs }) line) is
