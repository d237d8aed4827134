-- What holds of the words of each operation of which all names are known.
use Rattle.std.specs.Prelude.{◌≡◌, ℕ, true, List, ◌∷◌, ◌++◌}
use Rattle.plain_tree.specs.Ops.{Op, Ops, op_tree}
use Rattle.text_model.specs.PrintedNames.{Names}
use Rattle.text_model.specs.PrintedOps.{op_text}
use Rattle.text_grammar.specs.declared.parts.Part.TheVariants as parts
use Rattle.text_grammar.specs.declared.cuts.Mode.TheVariants.{Plain}
use Rattle.text_grammar.specs.Table.{Wanted, some}
use Rattle.printed_words.specs.Words.{PrintedWord, text_of, are_blanks, AreApart, AreRead}
use Rattle.printed_ops.specs.OpWords.{op_words, ops_words}
use Rattle.printed_ops.specs.Named.{is_known_op, are_known_ops}

-- before another line, the text of an operation's words is the operation's text behind a line feed
abbrev pub TextOfOps : Type 0
TextOfOps = (n : Names) (indent : List ℕ) (o : Op) (rest : List PrintedWord) (end next : List ℕ) → is_known_op n o ≡ true → text_of rest end ≡ 10 ∷ next → text_of (op_words n indent o rest) end ≡ 10 ∷ (op_text n (op_tree o) indent ++ next)

-- they stand apart
abbrev pub OpsStandApart : Type 0
OpsStandApart = (n : Names) (indent : List ℕ) (o : Op) (rest : List PrintedWord) (end next : List ℕ) → is_known_op n o ≡ true → are_blanks indent ≡ true → text_of rest end ≡ 10 ∷ next → AreApart Plain rest end → AreApart Plain (op_words n indent o rest) end

-- and are what the grammar calls operations
abbrev pub OpsAreRead : Type 0
OpsAreRead = (n : Names) (indent : List ℕ) (os : Ops) (wanted : List Wanted) (rest : List PrintedWord) → are_known_ops n os ≡ true → AreRead wanted rest → AreRead (some parts.Ops ∷ wanted) (ops_words n indent os rest)
