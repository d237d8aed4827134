-- The numbers of values and labels: each is counted through its function in the order of the text, from 0.
use Rattle.std.specs.Prelude.{ℕ, suc, ◌+◌, ◌-◌, Bool, true, false, List, [], ◌∷◌, drop, Option, Some, None, get_or, if◌then◌else◌}
use Rattle.text_grammar.specs.declared.places.Place.{Place}
use Rattle.text_grammar.specs.declared.places.Place.TheVariants as places
use Rattle.text_events.specs.declared.event.Event.{Event}
use Rattle.term_table.specs.declared.node.Form.TheVariants as forms
use Rattle.term_table.specs.Terms.{Term, node}
use Rattle.text_types.specs.Items.{place_next}
use Rattle.text_scopes.specs.declared.bodies.Class.{Class}
use Rattle.text_scopes.specs.declared.steps.Step.{Step}
use Rattle.text_scopes.specs.declared.steps.Step.TheVariants as steps
use Rattle.text_scopes.specs.Bodies.{behind, outside}
use Rattle.text_scopes.specs.Tables.{value_step}
use Rattle.event_trees.specs.declared.counts.Counts.{Counts}
use Rattle.event_trees.specs.Wording.{Wording}

-- How many results each operation has

-- how many types a list of types has
abbrev pub length_of : Term → ℕ
length_of (node forms.Types _ first more) = suc (length_of more)
length_of _ = 0

-- how many results a function type has
abbrev pub results_in : Term → ℕ
results_in (node forms.Func _ inputs results) = length_of results
results_in _ = 0

abbrev pub first_count : List ℕ → ℕ
first_count [] = 0
first_count (count ∷ more) = count

-- the result counts of the function types at whose operations' names one doesn't stand yet, read from the right, the next one first
abbrev pub waiting_at : Place → ℕ → List ℕ → List ℕ
waiting_at places.SignatureOpen results waiting = results ∷ waiting
waiting_at places.OpName results waiting = drop 1 waiting
waiting_at _ results waiting = waiting

-- over events with the term that begins at each
abbrev pub waiting : List Event → List Term → List ℕ
waiting [] ts = []
waiting (e ∷ es) [] = []
waiting (e ∷ es) (t ∷ ts) = waiting_at e.place (results_in t) (waiting es ts)

-- for each event how many results the next function type to which no name has come has: at the name of an operation, its own results
abbrev pub result_counts : List Event → List Term → List ℕ
result_counts [] ts = []
result_counts (e ∷ es) [] = []
result_counts (e ∷ es) (t ∷ ts) = first_count (waiting es ts) ∷ result_counts es ts

-- The numbers at definitions

abbrev pub no_counts : Counts
no_counts = record { body = outside; values = 0; named = 0; labels = 0 }

-- a region whose first block has no label begins with an operation
abbrev pub begins_operation : Option Place → Bool
begins_operation (Some places.OpName) = true
begins_operation (Some places.ResultName) = true
begins_operation _ = false

-- the number of what is defined here: the results of an operation come one by one from its first result's number on, named or not; a block without a label has the number of the region's `{`
abbrev pub defined_at : Counts → Place → ℕ
defined_at c places.ResultName = c.values + c.named
defined_at c places.OpName = c.values
defined_at c places.ArgName = c.values
defined_at c places.BlockLabel = c.labels
defined_at c places.RegionOpen = c.labels
defined_at c _ = 0

-- the border of a function is where the scope of its values ends: counting begins anew
abbrev pub is_border : Step → Bool
is_border steps.Ends = true
is_border _ = false

-- behind an event, where the next one is at this place: an operation has so many results
abbrev pub counted_at : Wording → Counts → Place → ℕ → ℕ → Option Place → Counts
counted_at words c places.ResultName name results next = record c { named = c.named + 1 }
-- `%x:3` stands for three
counted_at words c places.ResultNumber name results next = record c { named = c.named + words.number name - 1 }
counted_at words c places.OpName name results next = record c { values = c.values + results; named = 0 }
counted_at words c places.ArgName name results next = record c { values = c.values + 1 }
counted_at words c places.BlockLabel name results next = record c { labels = c.labels + 1 }
counted_at words c places.RegionOpen name results next = if begins_operation next then record c { labels = c.labels + 1 } else c
counted_at words c _ name results next = c

abbrev pub or_anew : Bool → Counts → Counts
or_anew anew c = if anew then record c { values = 0; named = 0; labels = 0 } else c

abbrev pub counted : Wording → (ℕ → Class) → Counts → Event → ℕ → Option Place → Counts
counted words class c e results next =
    record (or_anew (is_border (value_step c.body e.place)) (counted_at words c e.place e.name results next)) { body = behind class c.body e }

-- the number at each event, with how many results its operation has
abbrev pub numbers_from : Wording → (ℕ → Class) → Counts → List Event → List ℕ → List ℕ
numbers_from words class c [] results = []
numbers_from words class c (e ∷ es) [] = []
numbers_from words class c (e ∷ es) (n ∷ results) = defined_at c e.place ∷ numbers_from words class (counted words class c e n (place_next es)) es results

-- The numbers at uses

-- the index behind a use, 0 where none is written
abbrev pub index_at : Wording → List Event → ℕ
index_at words [] = 0
index_at words (e ∷ es) = elim e.place [ places.UseNumber ↦ words.index e.name | _ ↦ 0 ]

-- the number at the definition of a use
abbrev pub number_at : List ℕ → Option ℕ → ℕ
number_at numbers None = 0
number_at numbers (Some place) = get_or numbers place 0

abbrev pub first_of : List (Option ℕ) → Option ℕ
first_of [] = None
first_of (o ∷ os) = o

-- the definitions of uses that are left: those of values and those of labels
pub record Left : Type 0 where
  pub values : List (Option ℕ)
  pub labels : List (Option ℕ)

-- behind an event
abbrev pub left_at : Place → Left → Left
left_at places.UseName left = record left { values = drop 1 left.values }
left_at places.SuccessorName left = record left { labels = drop 1 left.labels }
left_at _ left = left

-- a use has the number of its definition, and its index with it
abbrev pub meant_at : List ℕ → Left → Place → ℕ → ℕ → ℕ
meant_at numbers left places.UseName index own = number_at numbers (first_of left.values) + index
meant_at numbers left places.SuccessorName index own = number_at numbers (first_of left.labels)
meant_at numbers left _ index own = own

-- the number at each event, where these are the numbers at definitions
abbrev pub meant_from : Wording → List ℕ → Left → List Event → List ℕ → List ℕ
meant_from words numbers left [] own = []
meant_from words numbers left (e ∷ es) [] = []
meant_from words numbers left (e ∷ es) (n ∷ own) = meant_at numbers left e.place (index_at words es) n ∷ meant_from words numbers (left_at e.place left) es own
