-- One event more of the count of parts.
use Rattle.std.proofs.Common.{◌≡◌, ℕ, ◌+◌, ◌-◌, ◌<◌, ◌≤◌, List, length, drop, get_or, Option, Some, sym, ◌∙◌, ap, arith, nat_lt}
use Rattle.text_events.specs.declared.event.Event.{Event}
use Rattle.type_kinds.specs.First.{first_in}
use Rattle.type_kinds.specs.Sizes.{Sizes, moved}
use Rattle.type_kinds.specs.Parts.{Counted, most_parts, parts_at, count, too_many}
use Rattle.type_kinds.proofs.FirstIn.{ahead, next_turn, not_below, is_below, found}

abbrev pub state : Sizes → ℕ → Counted
state sizes total = record { sizes = sizes; total = total }

pub count_step : (sizes more : Sizes) (total parts : ℕ) (es : List Event) (i : ℕ) (e : Event) (whole : Option ℕ) → i < length es
    → ahead i (first_in count too_many (state sizes total) (drop i es)) ≡ whole → parts ≡ parts_at (state sizes total) (get_or es i e) (drop (i + 1) es) → parts ≤ most_parts - total
    → total ≤ most_parts → more ≡ moved sizes (get_or es i e) (sizes.amount + parts) → ahead (i + 1) (first_in count too_many (state more (total + parts)) (drop (i + 1) es)) ≡ whole
count_step sizes more total parts es i e whole within so_far is few bound moves =
    next_turn count too_many (state sizes total) (state more (total + parts)) es i e whole within so_far
    (ap (λ n. nat_lt most_parts (total + n)) (sym is) ∙ not_below most_parts (total + parts) (omega arith))
    (ap (λ m. state m (total + parts)) moves ∙ ap (λ n. state (moved sizes (get_or es i e) (sizes.amount + n)) (total + n)) is)

pub count_found : (sizes : Sizes) (total parts : ℕ) (es : List Event) (i : ℕ) (e : Event) (whole : Option ℕ) → i < length es
    → ahead i (first_in count too_many (state sizes total) (drop i es)) ≡ whole → parts ≡ parts_at (state sizes total) (get_or es i e) (drop (i + 1) es) → most_parts - total < parts
    → Some i ≡ whole
count_found sizes total parts es i e whole within so_far is many =
    sym (found count too_many (state sizes total) es i e within
    (ap (λ n. nat_lt most_parts (total + n)) (sym is) ∙ is_below most_parts (total + parts) (omega arith))) ∙ so_far
