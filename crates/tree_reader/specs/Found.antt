-- What was found of a text that nothing refuses.
use Rattle.std.specs.Prelude.{◌≡◌, ℕ, Bool, List, None}
use Rattle.text_refusals.specs.declared.findings.Findings.{Findings}
use Rattle.text_refusals.specs.Findings.{Finds}

-- it is found of this text, and nothing refuses it
abbrev pub Unrefused : List ℕ → Findings → Type 0
Unrefused text f = (allowed : Bool) × Finds text allowed f × (f.refusal ≡ None)
