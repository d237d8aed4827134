use Rattle.std.proofs.Common.{◌≡◌, ◌++◌, length, drop}
use Rattle.text_types.specs.Items.{Aliases, begun}
use Rattle.text_types.specs.Stack.{Stands, Within}
use Rattle.use_kinds.specs.Written.{no_operation, types_from}
use Rattle.use_kinds.specs.Flat.{CursorWithin, RowsWithin, rows_types, waits}
use Rattle.use_kinds.proofs.types.types_of.Given as goal

-- the types of the events so far, before those of what is left
abbrev pub invariant-each : goal.invariant-each
invariant-each g l = record {
  cursor : CursorWithin (length l.terms.nodes.keys) l.cursor;
  items : Within (length l.terms.nodes.keys) l.items.items;
  rows : RowsWithin (length l.items.items) l.rows.items;
  types : (aliases : Aliases) → Stands l.terms.nodes.keys l.numbers (begun (g.S.Spelled.spelling l.words) aliases l.events)
      → rows_types l.terms.nodes.keys l.items.items l.rows.items ++ types_from (g.S.Spelled.spelling l.words) aliases (waits l.terms.nodes.keys l.cursor) (drop l.index l.events)
      ≡ types_from (g.S.Spelled.spelling l.words) aliases no_operation l.events;
}
