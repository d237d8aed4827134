-- Lines on runs, written out.
use Rattle.std.specs.Prelude.{◌≡◌, ℕ, List, [], ◌∷◌, Some, codes, pos, negsuc}
use Rattle.operation_model.specs.Calling.{Bare}
use Rattle.form_model.specs.Codes.{BlocksEnd, Function}
use Rattle.machine_model.specs.Worlds.{NoRoom}
use Rattle.meaning_model.specs.Meaning.{Done, Stops}
use Rattle.run_lines.specs.Lines.{call_line, end_text, outcome_text}

-- a declared function with parameters and results of these widths
abbrev pub declared : List ℕ → List ℕ → List ℕ → Function
declared name inputs outputs = record { name = name; face = record { inputs = Some inputs; outputs = Some outputs; packing = Bare }; shapes = []; body = BlocksEnd }

-- a run of `f`, which gives an i32 and an i1, and has called `next`, which gives two numbers, and then `tell`, which gives none
abbrev pub AnOutcome : Type 0
AnOutcome =
    outcome_text (declared (codes "f") [] (32 ∷ 1 ∷ []) ∷ declared (codes "next") (8 ∷ 64 ∷ []) (3 ∷ 64 ∷ []) ∷ declared (codes "tell") (1 ∷ []) [] ∷ [])
    (codes "f") (Done (negsuc 1 ∷ negsuc 0 ∷ []))
    (record { name = codes "next"; args = pos 0 ∷ negsuc 0 ∷ []; answers = pos 0 ∷ pos 7 ∷ [] } ∷ record { name = codes "tell"; args = pos 0 ∷ []; answers = [] } ∷ [])
    ≡ codes "done -2, true\ncall @next(0, -1) = 0, 7\ncall @tell(false)\n"

-- a run without results
abbrev pub DoneAlone : Type 0
DoneAlone = end_text [] (Done []) ≡ codes "done"

-- -1 is a word where it has one bit alone
abbrev pub OneBit : Type 0
OneBit = end_text (1 ∷ 2 ∷ []) (Done (negsuc 0 ∷ negsuc 0 ∷ [])) ≡ codes "done true, -1"

abbrev pub NoRoomLeft : Type 0
NoRoomLeft = end_text (32 ∷ []) (Stops NoRoom) ≡ codes "no room"

-- a name that is no bare identifier is a string
abbrev pub QuotedName : Type 0
QuotedName = call_line [] [] (record { name = codes "a \"b"; args = []; answers = [] }) ≡ codes "call @\"a \\22b\"()\n"
