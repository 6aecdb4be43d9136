-- A home, call by call. Each call leaves a home that differs from the first one in the header of one line, and in its directory.
use Rattle.std.proofs.Common.{◌≡◌, ℕ, Bool, true, false, cond, nat_le, not, Result, Ok, Err, unwrap_or, refl, sym, ap, ◌∙◌, arith}
use Rattle.std.specs.FinMap as fin
use Rattle.line_map.specs.Sizes.{home_of}
use Rattle.op_model.specs.Lines.{Header}
use Rattle.op_model.specs.Shares.{first_header, header_in, pending_among}
use Rattle.dir_header.specs.Sharers.{Directory}
use Rattle.dir_header.specs.HomeSides.{HomeView, IsHome, header_at, room_in, with_header}
use Rattle.std.specs.Prelude.{is_err, OnOk}
use Rattle.op_model.specs.Lines.{is_idle}
use Rattle.op_model.proofs.Public.{some_held}
use Rattle.dir_header.proofs.Public.{header-put, pend, put-put, sum-insert}
pub use Rattle.dir_header.proofs.Public.{put-same}
use Rattle.node_share.specs.Parts.{AreHeaders}

pub record Puts {D : Type 0} (old new : HomeView D) (line : ℕ) (header : Header) : Type 0 where
  pub sizes : new.sizes ≡ old.sizes
  pub node : new.node ≡ old.node
  pub charge : new.charge ≡ old.charge
  pub headers : new.headers ≡ fin.insert old.headers line header

module _ {D : Type 0} {old mid : HomeView D} {line : ℕ} {header : Header} (puts : Puts old mid line header) where
  -- the header that was put last is the line's
  pub puts-read : header_at mid line ≡ header
  unfolding header_in
  puts-read = (λ i. unwrap_or (fin.get (puts.headers i) line) (first_header (puts.sizes i))) ∙ header-put old line header

  pub puts-own : home_of old.sizes line ≡ old.node → home_of mid.sizes line ≡ mid.node
  puts-own own = ap (λ s. home_of s line) puts.sizes ∙ own ∙ sym puts.node

  pub puts-frame : mid ≡ record old { dir = mid.dir; headers = mid.headers }
  puts-frame = λ i. record { sizes = puts.sizes i; node = puts.node i; charge = puts.charge i; dir = mid.dir; headers = mid.headers }

  -- one call more
  pub puts-then : (new : HomeView D) (f : Header → Header) (dir : D) → new ≡ record (with_header mid line (f (header_at mid line))) { dir = dir } → Puts old new line (f header)
  puts-then new f dir is = record {
    sizes = ap (λ h. h.sizes) is ∙ puts.sizes;
    node = ap (λ h. h.node) is ∙ puts.node;
    charge = ap (λ h. h.charge) is ∙ puts.charge;
    headers = ap (λ h. h.headers) is ∙ ap (λ h. fin.insert mid.headers line (f h)) puts-read ∙ ap (λ hs. fin.insert hs line (f header)) puts.headers ∙ put-put old.headers line header (f header);
  }

-- the same header, told otherwise
pub puts-as : {D : Type 0} {old new : HomeView D} {line : ℕ} {header : Header} → Puts old new line header → (other : Header) → header ≡ other → Puts old new line other
puts-as {old = old} {line = line} puts other same = record { sizes = puts.sizes; node = puts.node; charge = puts.charge; headers = puts.headers ∙ ap (fin.insert old.headers line) same }

-- the first call
pub puts-once : {D : Type 0} (old new : HomeView D) (line : ℕ) (header : Header) (dir : D) → new ≡ record (with_header old line header) { dir = dir } → Puts old new line header
puts-once old new line header dir is = record { sizes = ap (λ h. h.sizes) is; node = ap (λ h. h.node) is; charge = ap (λ h. h.charge) is; headers = ap (λ h. h.headers) is }

-- a home has a header for each of its lines
pub home-headers : {D : Type 0} (dir : Directory) (home : HomeView D) → IsHome dir home → AreHeaders home.sizes home.node home.headers
home-headers dir home is line own = (is.own line).1 own

-- no call
pub puts-none : {D : Type 0} (home : HomeView D) (line : ℕ) → AreHeaders home.sizes home.node home.headers → home_of home.sizes line ≡ home.node → Puts home home line (header_at home line)
unfolding header_in
puts-none home line has own = record { sizes = refl; node = refl; charge = refl; headers = sym (put-same home.headers line (header_at home line) (some_held (fin.get home.headers line) (first_header home.sizes) (has line own))) }

-- a home that doesn't refuse isn't full
pub not-full : (full : Bool) → (full ≡ true → false ≡ true) → full ≡ false
not-full true never = sym (never refl)
not-full false never = refl

-- a call that isn't refused has done what it does then
pub on-ok : {A E : Type 0} (r : Result A E) {P : Type 0} → (is_err r ≡ true → ⊥) → OnOk r P → P
on-ok (Ok a) never done = done
on-ok (Err e) never done = absurd (never refl)

-- a home has as many pending lines where a line has another list
pub full-stays : {D : Type 0} (old new : HomeView D) (line : ℕ) (header : Header) → AreHeaders old.sizes old.node old.headers → home_of old.sizes line ≡ old.node → Puts old new line header → header.wait ≡ (header_at old line).wait → (room_in new).full ≡ (room_in old).full
unfolding header_in
full-stays old new line header has own puts waits =
    let at = some_held (fin.get old.headers line) (first_header old.sizes) (has line own) in
    let sum = sum-insert pend line header (header_at old line) old.headers at in
    let same : pend header ≡ pend (header_at old line) = ap (λ w. cond (not (is_idle w)) 1 0) waits in
    let fewer : pending_among (fin.insert old.headers line header) ≡ pending_among old.headers = omega arith in
    (λ i. nat_le (puts.sizes i).pending (pending_among (puts.headers i))) ∙ ap (nat_le old.sizes.pending) fewer
