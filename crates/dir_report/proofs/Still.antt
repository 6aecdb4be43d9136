-- At the start each line has the first header.
use Rattle.std.proofs.Common.{◌≡◌, ℕ, ◌*◌, cond, refl}
use Rattle.std.specs.List.{range_with_len}
use Rattle.line_map.specs.Sizes.{Sizes, home_of}
use Rattle.op_model.specs.Lines.{Header, is_pending}
use Rattle.op_model.specs.Shares.{first_header, header_in, pending_lines}
use Rattle.op_model.specs.Run.Runs.{start, start_share}
use Rattle.op_model.proofs.Public.{first_headers-same}
use Rattle.dir_header.proofs.Public.{sum-first}
use Rattle.dir_report.specs.Reports.{header_at}

pub header_first : (sizes : Sizes) (line : ℕ) → header_at sizes (start sizes).state line ≡ first_header sizes
unfolding header_in
header_first sizes line = first_headers-same sizes (range_with_len (home_of sizes line * sizes.lines) sizes.lines) line

pub none_pending : (sizes : Sizes) (home : ℕ) → pending_lines (start_share sizes home) ≡ 0
none_pending sizes home = sum-first (λ (h : Header). cond (is_pending h) 1 0) sizes refl (range_with_len (home * sizes.lines) sizes.lines)
