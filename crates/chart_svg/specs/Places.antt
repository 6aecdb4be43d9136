-- Where the parts of a picture stand: a column for each node, a row for each stroke. x grows to the right, y downward.
use Rattle.std.specs.Prelude.{ℕ, ◌+◌, ◌-◌, ◌*◌, ◌/◌, Bool, true, if◌then◌else◌, ◌&&◌, nat_lt, List, Option, None, Some}
use Rattle.std.specs.List.{count_by}
use Rattle.chart_strokes.specs.declared.strokes.Letter.{Letter}
use Rattle.chart_strokes.specs.declared.strokes.Stroke.{Stroke}
use Rattle.chart_strokes.specs.Strokes.{is_about}
use Rattle.chart_svg.specs.declared.places.Place.{Place}
use Rattle.chart_svg.specs.declared.places.Side.{Side}
use Rattle.chart_svg.specs.declared.places.Side.TheVariants.{Left, Right}

-- ---- rows

-- all strokes are shown, or those about a chosen line
abbrev pub is_shown : Option ℕ → Stroke → Bool
is_shown None stroke = true
is_shown (Some line) stroke = is_about line stroke

abbrev pub rows_of : Option ℕ → List Stroke → ℕ
rows_of chosen strokes = count_by (is_shown chosen) strokes

abbrev pub is_before : Option ℕ → ℕ → Stroke → Bool
is_before chosen number stroke = is_shown chosen stroke && nat_lt stroke.number number

-- the row of an event's number: how many strokes are shown above it
abbrev pub row_number : Option ℕ → List Stroke → ℕ → ℕ
row_number chosen strokes number = count_by (is_before chosen number) strokes

-- the place of a stroke is on the lifeline of its node
abbrev pub stroke_place : Option ℕ → List Stroke → Stroke → Place
stroke_place chosen strokes stroke = record { node = stroke.node; row = row_number chosen strokes stroke.number }

-- and that from which a letter comes on the lifeline of its sender
abbrev pub origin : Option ℕ → List Stroke → Letter → Place
origin chosen strokes letter = record { node = letter.src; row = row_number chosen strokes letter.sent }

-- ---- points

abbrev pub x_of : ℕ → ℕ
x_of node = 280 + 130 * node

abbrev pub y_of : ℕ → ℕ
y_of row = 200 + 28 * row

-- words on the line of a row, above it and below it
abbrev pub y_on : ℕ → ℕ
y_on row = 204 + 28 * row

abbrev pub y_above : ℕ → ℕ
y_above row = 194 + 28 * row

abbrev pub y_below : ℕ → ℕ
y_below row = 213 + 28 * row

-- how many columns lie from one node to another
abbrev pub gap : ℕ → ℕ → ℕ
gap a b = if nat_lt a b then b - a else a - b

-- a number near the head of an arrow over so many columns: less than half a column away, so that no words stand on a lifeline
abbrev pub near_head : ℕ → ℕ → ℕ → ℕ
near_head columns tail head = if nat_lt tail head then head - (head - tail) / (2 * columns + 1) else head + (tail - head) / (2 * columns + 1)

-- ---- sides

-- words stand on the side from which no letter comes
abbrev pub side_from : ℕ → Option Letter → Side
side_from node None = Right
side_from node (Some letter) = if nat_lt node letter.src then Left else Right

abbrev pub side_of : Stroke → Side
side_of stroke = side_from stroke.node stroke.letter

abbrev pub x_beside : Side → ℕ → ℕ
x_beside Left node = 268 + 130 * node
x_beside Right node = 292 + 130 * node
