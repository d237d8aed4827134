-- Lists of terms, node by node.
use Rattle.std.proofs.Common.{◌≡◌, ℕ, List, [], ◌++◌, refl, sym, ◌∙◌, ap}
use Rattle.std.proofs.lemmas.List.{append-nil}
use Rattle.plain_tree.specs.Types.{type_trees}
use Rattle.term_table.specs.declared.node.Form.{Form}
use Rattle.term_table.specs.declared.node.Form.TheVariants as forms
use Rattle.term_table.specs.Terms.{Term, nothing, node}
use Rattle.text_types.specs.Plain.{types_of}
use Rattle.event_trees.specs.Numbers.{length_of}
use Rattle.event_trees.specs.Wording.{Wording}
use Rattle.event_trees.specs.Attrs.{entries_of, items_of, words_of}

-- what is left of a list is nothing
pub no_more : {X : Type 0} (done rest whole : List X) → done ++ rest ≡ whole → rest ≡ [] → done ≡ whole
no_more done rest whole is none = sym (append-nil done) ∙ ap (λ xs. done ++ xs) (sym none) ∙ is

-- the term is no node of this form
abbrev pub NotA : Form → Term → Type 0
NotA form t = (value : ℕ) (left right : Term) → t ≡ node form value left right → ⊥

-- Types

pub types_none : (t : Term) → NotA forms.Types t → type_trees (types_of t) ≡ []
types_none nothing none = refl
types_none (node forms.Types value left right) none = absurd (none value left right refl)
types_none (node _ value left right) none = refl

-- Attributes

pub items_none : (words : Wording) (t : Term) → NotA forms.Item t → items_of words t ≡ []
items_none words nothing none = refl
items_none words (node forms.Item value left right) none = absurd (none value left right refl)
items_none words (node _ value left right) none = refl

pub entries_none : (words : Wording) (t : Term) → NotA forms.Entry t → entries_of words t ≡ []
entries_none words nothing none = refl
entries_none words (node forms.Entry value left right) none = absurd (none value left right refl)
entries_none words (node _ value left right) none = refl

-- Words

pub words_none : (words : Wording) (t : Term) → NotA forms.DialectWord t → words_of words t ≡ []
words_none words nothing none = refl
words_none words (node forms.DialectWord value left right) none = absurd (none value left right refl)
words_none words (node _ value left right) none = refl

-- Counts

pub length_none : (t : Term) → NotA forms.Types t → length_of t ≡ 0
length_none nothing none = refl
length_none (node forms.Types value left right) none = absurd (none value left right refl)
length_none (node _ value left right) none = refl
