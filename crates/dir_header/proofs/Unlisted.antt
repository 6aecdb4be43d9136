-- A node that isn't listed is taken off a line's list without a change.
use Rattle.std.proofs.Common.{◌≡◌, ℕ, ◌%◌, Bool, true, false, cond, ◌&&◌, ◌-◌, refl, sym, ap, ◌∙◌}
use Rattle.std.specs.FinMap as fin
use Rattle.line_map.specs.Sizes.{home_of}
use Rattle.op_model.specs.Nodes.{listed, unlist}
use Rattle.op_model.specs.Shares.{first_header, header_in}
use Rattle.op_model.specs.Tables.Remote.{is_invalidate}
use Rattle.op_model.proofs.Public.{some_held}
use Rattle.dir_header.specs.Sharers.{Directory, list_at, with_list}
use Rattle.dir_header.specs.HomeSides.{HomeView, IsHome, header_at, unlisted, with_header}
use Rattle.dir_header.proofs.Directories.{unlist-none, unlist-same}
use Rattle.dir_header.proofs.Tables.{put-same}

no-ack : (b l : Bool) (n : ℕ) → l ≡ false → cond (b && l) (n - 1) n ≡ n
no-ack true l n off = ap (λ k. cond k (n - 1) n) off
no-ack false l n off = refl

module _ {D : Type 0} (dir : Directory) (home : HomeView D) (is : IsHome dir home) (g node : ℕ) (own : home_of home.sizes g ≡ home.node) (off : listed (list_at dir (g % home.sizes.lines)) node ≡ false) where
  gone : listed (header_at home g).list node ≡ false
  gone = ap (λ l. listed l node) (is.lists g own) ∙ off

  same-header : unlisted (header_at home g) node ≡ header_at home g
  same-header = λ i. record (header_at home g) { list = unlist-none (header_at home g).list node gone i; acks = no-ack (is_invalidate (header_at home g).wait) (listed (header_at home g).list node) (header_at home g).acks gone i }

  pub home-same : home ≡ record (with_header home g (unlisted (header_at home g) node)) { dir = home.dir }
  unfolding header_in
  home-same =
      ap (λ hs. record home { headers = hs })
      (sym (ap (fin.insert home.headers g) same-header ∙ put-same home.headers g (header_at home g) (some_held (fin.get home.headers g) (first_header home.sizes) ((is.own g).1 own))))

  pub dir-same : dir ≡ with_list dir (g % home.sizes.lines) (unlist (header_at home g).list node)
  dir-same = unlist-same dir (g % home.sizes.lines) node off ∙ ap (λ l. with_list dir (g % home.sizes.lines) (unlist l node)) (sym (is.lists g own))
