-- A value with the properties and the type that are meant.
use Rattle.std.proofs.Common.{◌≡◌, ℕ, List, [], sym, ap, ◌∙◌}
use Rattle.std.specs.Prelude.{ℤ}
use Rattle.plain_tree.specs.Types.{PlainType}
use Rattle.plain_tree.specs.Attrs.{Entries}
use Rattle.conversion_model.specs.declared.templates.Source.{Source}
use Rattle.conversion_model.specs.declared.templates.TemplateTree.{TemplateTree}
use Rattle.pattern_model.specs.Drafts.{Draft, effect, value}
use Rattle.pattern_model.specs.MemrefRows.{constant}
use Rattle.row_drafts.specs.declared.writer.Writer.{Writer}
use Rattle.row_drafts.specs.Writes.{behind}

pub same_value : (w : Writer) (name : List ℕ) (sources : List Source) (ps qs : Entries) (t u : PlainType) → ps ≡ qs → t ≡ u
    → (next : Source → Draft) (r : TemplateTree) → behind w (value name sources ps t next) ≡ r → behind w (value name sources qs u next) ≡ r
same_value w name sources ps qs t u e h next r k =
    sym (ap (λ p. behind w (value name sources p u next)) e) ∙ sym (ap (λ v. behind w (value name sources ps v next)) h) ∙ k

-- an operation without values, with the properties that are meant
pub same_effect : (w : Writer) (name : List ℕ) (sources : List Source) (ps qs : Entries) → ps ≡ qs
    → (next : Draft) (r : TemplateTree) → behind w (effect name sources ps [] next) ≡ r → behind w (effect name sources qs [] next) ≡ r
same_effect w name sources ps qs e next r k = sym (ap (λ p. behind w (effect name sources p [] next)) e) ∙ k

-- a constant of the number that is meant
pub same_number : (w v : Writer) (t : PlainType) (m n : ℤ) (s : Source) → m ≡ n → ((next : Source → Draft) → behind w (constant m t next) ≡ behind v (next s))
    → (next : Source → Draft) → behind w (constant n t next) ≡ behind v (next s)
same_number w v t m n s e is next = sym (ap (λ k. behind w (constant k t next)) e) ∙ is next
