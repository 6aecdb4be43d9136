-- The picture of the strokes of a run: a lifeline for each node, a row for each stroke, an arrow for each letter that is taken, and a mark for each event.
use Rattle.std.specs.Prelude.{ℕ, ◌+◌, ◌*◌, ◌++◌, List, [], ◌∷◌, codes, decimal, filter, Option, Some, None}
use Rattle.std.specs.List.{flat_map, range_with_len}
use Rattle.op_model.specs.declared.events.Class.{Class}
use Rattle.op_model.specs.declared.events.Class.TheVariants.{Request, Reply}
use Rattle.op_model.specs.declared.events.Event.{Event}
use Rattle.op_model.specs.declared.events.Event.TheVariants.{Hit, Issue, Evict, Take, Reclaim}
use Rattle.op_model.specs.declared.messages.Msg.{Msg}
use Rattle.op_model.specs.declared.operations.Entry.{Entry}
use Rattle.op_model.specs.Messages.{Content, Nak, Nakc, class_of, msg_line, msg_content}
use Rattle.chart_strokes.specs.declared.strokes.Letter.{Letter}
use Rattle.chart_strokes.specs.declared.strokes.Stroke.{Stroke}
use Rattle.chart_strokes.specs.Strokes.{called_in}
use Rattle.step_journal.specs.Printing.{steps_text}
use Rattle.dir_report.specs.Reports.{entry_line}
use Rattle.time_view.specs.Messages.{message_name, cause_word}
use Rattle.chart_svg.specs.declared.places.Place.{Place}
use Rattle.chart_svg.specs.declared.places.Side.{Side}
use Rattle.chart_svg.specs.declared.places.Side.TheVariants.{Left, Right}
use Rattle.chart_svg.specs.Places.{is_shown, rows_of, stroke_place, origin, x_of, y_of, y_on, y_above, y_below, gap, near_head, side_of, x_beside}
use Rattle.chart_svg.specs.Pieces.{lifeline, guide, arrow, mark, words, document_opening, document_closing}
use Rattle.chart_svg.specs.Sheet.{styles, arrow_heads, mark_shapes, line_legend, mark_legend, entry_legend}

-- ---- arrows

abbrev pub style_of_class : Class → List ℕ
style_of_class Request = codes "request"
style_of_class Reply = codes "reply"

-- requests, replies, and the refusals among these
abbrev pub style_of : Content → List ℕ
style_of (Nak cause) = codes "refusal"
style_of Nakc = codes "refusal"
style_of content = style_of_class (class_of content)

-- a Nak says why
abbrev pub cause_part : Content → List ℕ
cause_part (Nak cause) = codes " " ++ cause_word cause
cause_part _ = []

-- <message> <line>, and the cause of a Nak
unfoldable pub letter_words : Msg → List ℕ
letter_words m = message_name (msg_content m) ++ codes " " ++ decimal (msg_line m) ++ cause_part (msg_content m)

-- near the head of its arrow
unfoldable pub letter_label : Msg → Place → Place → List ℕ
letter_label m tail head =
    let columns = gap tail.node head.node in
    words (codes "middle") (near_head columns (x_of tail.node) (x_of head.node)) (near_head columns (y_on tail.row) (y_on head.row)) (letter_words m)

-- from the event that sent the letter to the one that takes it
abbrev pub letter_line : Option ℕ → List Stroke → Place → Option Letter → List ℕ
letter_line chosen strokes head None = []
letter_line chosen strokes head (Some letter) = arrow (style_of (msg_content letter.msg)) (origin chosen strokes letter) head

abbrev pub letter_text : Option ℕ → List Stroke → Place → Option Letter → List ℕ
letter_text chosen strokes head None = []
letter_text chosen strokes head (Some letter) = letter_label letter.msg (origin chosen strokes letter) head

abbrev pub lines_at : Option ℕ → List Stroke → Stroke → Place → List ℕ
lines_at chosen strokes stroke place = guide place ++ letter_line chosen strokes place stroke.letter

-- the lines of a stroke
abbrev pub stroke_lines : Option ℕ → List Stroke → Stroke → List ℕ
stroke_lines chosen strokes stroke = lines_at chosen strokes stroke (stroke_place chosen strokes stroke)

-- ---- marks

abbrev pub mark_name : Event → List ℕ
mark_name (Hit node) = codes "event"
mark_name (Issue node) = codes "event"
mark_name (Evict node line kind) = codes "eviction"
mark_name (Take src dst class victim) = codes "event"
mark_name (Reclaim line) = codes "reclaim"

abbrev pub side_name : Side → List ℕ
side_name Left = codes "left"
side_name Right = codes "right"

-- words beside a place, at this height
abbrev pub words_beside : Side → Place → ℕ → List ℕ → List ℕ
words_beside side place y content = words (side_name side) (x_beside side place.node) y content

-- an operation that is served: a filled mark, and the entry above the line
unfoldable pub served_entry : Side → Place → Entry → List ℕ
served_entry side place entry = mark (codes "served") place ++ words_beside side place (y_above place.row) (entry_line entry)

abbrev pub served_text : Side → Place → Option Entry → List ℕ
served_text side place None = []
served_text side place (Some entry) = served_entry side place entry

-- an operation that is completed: a ring around the mark, and the entry below the line
unfoldable pub completed_entry : Side → Place → Entry → List ℕ
completed_entry side place entry = mark (codes "completed") place ++ words_beside side place (y_below place.row) (entry_line entry)

abbrev pub completed_text : Side → Place → Option Entry → List ℕ
completed_text side place None = []
completed_text side place (Some entry) = completed_entry side place entry

unfoldable pub calling_words : Side → Place → ℕ → List ℕ
calling_words side place line = words_beside side place (y_below place.row) (codes "calls in " ++ decimal line)

-- the line that a home calls in for its links
abbrev pub calling_text : Side → Place → Option ℕ → List ℕ
calling_text side place None = []
calling_text side place (Some line) = calling_words side place line

-- at the left the event's number, and the event as a step
unfoldable pub number_words : ℕ → ℕ → List ℕ
number_words row number = words (codes "number") 50 (y_on row) (decimal number)

unfoldable pub step_label : ℕ → Event → List ℕ
step_label row event = words (codes "step") 60 (y_on row) (steps_text (event ∷ []))

unfoldable pub stroke_at : Side → Place → Stroke → List ℕ
stroke_at side place stroke =
    number_words place.row stroke.number
    ++ step_label place.row stroke.event
    ++ mark (mark_name stroke.event) place
    ++ served_text side place stroke.served
    ++ completed_text side place stroke.completed
    ++ calling_text side place (called_in stroke.event)

abbrev pub labels_at : Option ℕ → List Stroke → Stroke → Place → List ℕ
labels_at chosen strokes stroke place = letter_text chosen strokes place stroke.letter ++ stroke_at (side_of stroke) place stroke

-- the mark and the words of a stroke
abbrev pub stroke_words : Option ℕ → List Stroke → Stroke → List ℕ
stroke_words chosen strokes stroke = labels_at chosen strokes stroke (stroke_place chosen strokes stroke)

-- ---- lifelines

unfoldable pub node_name : ℕ → List ℕ
node_name node = words (codes "middle") (x_of node) 168 (codes "node " ++ decimal node)

-- a node's name, and its line down to below the last row
abbrev pub node_text : ℕ → ℕ → List ℕ
node_text rows node = node_name node ++ lifeline (x_of node) (y_of rows)

abbrev pub lifelines_text : ℕ → ℕ → List ℕ
lifelines_text nodes rows = flat_map (node_text rows) (range_with_len 0 nodes)

-- ---- the picture

abbrev pub chosen_words : Option ℕ → List ℕ
chosen_words None = codes "all lines"
chosen_words (Some line) = codes "line " ++ decimal line

unfoldable pub heading : Option ℕ → List ℕ
heading chosen = words (codes "title") 20 28 (codes "Events of " ++ chosen_words chosen)

unfoldable pub legend : List ℕ
legend = line_legend ++ mark_legend ++ entry_legend

-- the document's size, and what each picture has alike
unfoldable pub sheet : ℕ → ℕ → List ℕ
sheet nodes rows = document_opening (340 + 130 * nodes) (212 + 28 * rows) ++ styles ++ arrow_heads ++ mark_shapes ++ legend

-- the lines lie below the marks and the words
unfoldable pub picture_text : ℕ → Option ℕ → List Stroke → List ℕ
picture_text nodes chosen strokes =
    sheet nodes (rows_of chosen strokes)
    ++ heading chosen
    ++ lifelines_text nodes (rows_of chosen strokes)
    ++ flat_map (stroke_lines chosen strokes) (filter (is_shown chosen) strokes)
    ++ flat_map (stroke_words chosen strokes) (filter (is_shown chosen) strokes)
    ++ document_closing
