-- What each picture has alike: how things are drawn, the marks, and what they mean.
use Rattle.std.specs.Prelude.{ℕ, ◌++◌, List, codes}

-- the title, and how text and lines are drawn
unfoldable pub styles : List ℕ
styles =
    codes "<title>Events of a run</title>\n"
    ++ codes "<style>\n"
    ++ codes "text{stroke:white;stroke-width:6;paint-order:stroke}\n"
    ++ codes ".title{font-size:16px}\n"
    ++ codes ".number,.left{text-anchor:end}\n"
    ++ codes ".middle{text-anchor:middle}\n"
    ++ codes ".left,.right{font-size:10px}\n"
    ++ codes ".life{stroke:#999}\n"
    ++ codes ".guide{stroke:#ddd}\n"
    ++ codes ".request{stroke:#0072B2;stroke-width:1.5;marker-end:url(#request-head)}\n"
    ++ codes ".reply{stroke:#D55E00;stroke-width:1.5;stroke-dasharray:10 4;marker-end:url(#reply-head)}\n"
    ++ codes ".refusal{stroke:black;stroke-width:2.5;stroke-dasharray:3 3;marker-end:url(#refusal-head)}\n"
    ++ codes "</style>\n"

-- the heads of arrows
unfoldable pub arrow_heads : List ℕ
arrow_heads =
    codes "<defs>\n"
    ++ codes "<marker id='request-head' refX='16' refY='5' markerWidth='20' markerHeight='10' markerUnits='userSpaceOnUse' orient='auto'><path d='M0 1L10 5L0 9z' fill='#0072B2'/></marker>\n"
    ++ codes "<marker id='reply-head' refX='16' refY='5' markerWidth='20' markerHeight='10' markerUnits='userSpaceOnUse' orient='auto'><path d='M0 1L10 5L0 9z' fill='#D55E00'/></marker>\n"
    ++ codes "<marker id='refusal-head' refX='16' refY='5' markerWidth='20' markerHeight='10' markerUnits='userSpaceOnUse' orient='auto'><path d='M0 1L10 5L0 9z'/></marker>\n"

-- the marks, and the white ground
unfoldable pub mark_shapes : List ℕ
mark_shapes =
    codes "<circle id='event' r='4' fill='white' stroke='black'/>\n"
    ++ codes "<rect id='eviction' x='-4' y='-4' width='8' height='8' fill='white' stroke='black'/>\n"
    ++ codes "<path id='reclaim' d='M0 -6L6 0L0 6L-6 0z' fill='white' stroke='black'/>\n"
    ++ codes "<circle id='served' r='4'/>\n"
    ++ codes "<circle id='completed' r='7' fill='none' stroke='black' stroke-width='1.5'/>\n"
    ++ codes "</defs>\n"
    ++ codes "<rect width='100%' height='100%' fill='white'/>\n"

-- what the styles of arrows mean
unfoldable pub line_legend : List ℕ
line_legend =
    codes "<path class='request' d='M20 48H74'/><text x='80' y='52'>request</text>\n"
    ++ codes "<path class='reply' d='M20 70H74'/><text x='80' y='74'>reply</text>\n"
    ++ codes "<path class='refusal' d='M20 92H74'/><text x='80' y='96'>refusal (Nak, Nakc)</text>\n"

-- what the marks of events mean
unfoldable pub mark_legend : List ℕ
mark_legend =
    codes "<use href='#event' x='260' y='48'/><text x='280' y='52'>hit, issue or take</text>\n"
    ++ codes "<use href='#eviction' x='260' y='70'/><text x='280' y='74'>eviction</text>\n"
    ++ codes "<use href='#reclaim' x='260' y='92'/><text x='280' y='96'>reclaim</text>\n"

-- what the marks and words of operations mean, and the heads of the columns
unfoldable pub entry_legend : List ℕ
entry_legend =
    codes "<use href='#served' x='30' y='114'/><text x='80' y='118'>serves: entry above</text>\n"
    ++ codes "<use href='#event' x='260' y='114'/><use href='#completed' x='260' y='114'/><text x='280' y='118'>completes: entry below</text>\n"
    ++ codes "<text x='20' y='138'>entry: node, place, kind, address, value, old value</text>\n"
    ++ codes "<text x='20' y='152'>arrow: message, line, cause of a Nak</text>\n"
    ++ codes "<text class='number' x='50' y='168'>event</text><text x='60' y='168'>step</text>\n"
