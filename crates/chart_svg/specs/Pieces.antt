-- The pieces of a picture: lines, marks and words, each an element of SVG.
use Rattle.std.specs.Prelude.{ℕ, ◌++◌, List, codes, decimal}
use Rattle.chart_svg.specs.declared.places.Place.{Place}
use Rattle.chart_svg.specs.Places.{x_of, y_of}

-- ---- lines

-- the line on which a node stands, from its name down to a height
unfoldable pub lifeline : ℕ → ℕ → List ℕ
lifeline x bottom = codes "<path class='life' d='M" ++ decimal x ++ codes " 176V" ++ decimal bottom ++ codes "'/>\n"

-- a thin line from the words of a step to its place
unfoldable pub guide : Place → List ℕ
guide place = codes "<path class='guide' d='M196 " ++ decimal (y_of place.row) ++ codes "H" ++ decimal (x_of place.node) ++ codes "'/>\n"

-- an arrow of this style from one place to another
unfoldable pub arrow : List ℕ → Place → Place → List ℕ
arrow style tail head =
    codes "<path class='" ++ style ++ codes "' d='M" ++ decimal (x_of tail.node) ++ codes " " ++ decimal (y_of tail.row) ++ codes "L" ++ decimal (x_of head.node) ++ codes " " ++ decimal (y_of head.row) ++ codes "'/>\n"

-- ---- marks

-- one of the marks that the sheet defines, at a place
unfoldable pub mark : List ℕ → Place → List ℕ
mark name place = codes "<use href='#" ++ name ++ codes "' x='" ++ decimal (x_of place.node) ++ codes "' y='" ++ decimal (y_of place.row) ++ codes "'/>\n"

-- ---- words

unfoldable pub opening : List ℕ → ℕ → ℕ → List ℕ
opening style x y = codes "<text class='" ++ style ++ codes "' x='" ++ decimal x ++ codes "' y='" ++ decimal y ++ codes "'>"

unfoldable pub closing : List ℕ
closing = codes "</text>\n"

-- words in this style at a point
abbrev pub words : List ℕ → ℕ → ℕ → List ℕ → List ℕ
words style x y content = opening style x y ++ content ++ closing

-- ---- the document

unfoldable pub document_opening : ℕ → ℕ → List ℕ
document_opening width height =
    codes "<svg xmlns='http://www.w3.org/2000/svg' width='" ++ decimal width ++ codes "' height='" ++ decimal height ++ codes "' viewBox='0 0 " ++ decimal width ++ codes " " ++ decimal height ++ codes "' font-family='monospace' font-size='11'>\n"

unfoldable pub document_closing : List ℕ
document_closing = codes "</svg>\n"
