-- One event more of the counts.
use Rattle.std.proofs.Common.{◌≡◌, ℕ, zero, suc, ◌+◌, ◌≤◌, ◌<◌, Bool, true, false, List, [], ◌∷◌, length, map, drop, get_or, Option, Some, sym, ◌∙◌, ap, arith}
use Rattle.std.specs.Prelude.{◌&&◌}
use Rattle.std.proofs.lemmas.List.{drop_more}
use Rattle.text_events.specs.declared.event.Event.{Event}
use Rattle.term_table.specs.declared.node.Node.{Node}
use Rattle.term_table.specs.Terms.{term_at}
use Rattle.text_types.specs.Spelling.{Spelling}
use Rattle.text_types.specs.Items.{Aliases, begins, begun}
use Rattle.text_types.specs.Stack.{Within, Stands}
use Rattle.type_kinds.specs.declared.counts.Counts.{Counts}
use Rattle.type_kinds.specs.First.{first_in}
use Rattle.type_kinds.specs.Counts.{held, held_behind, is_signature, is_wrong, miscounts, pass_counts}
use Rattle.type_kinds.proofs.FirstIn.{ahead, next_turn, found}

pub number_within : (last : ℕ) (numbers : List ℕ) (i : ℕ) → Within last numbers → get_or numbers i 0 ≤ last
number_within last [] i w = omega arith
number_within last (n ∷ ns) zero w = w.0
number_within last (n ∷ ns) (suc i) w = number_within last ns i w.1

-- the number at an event stands for what begins there
pub number_is : (words : Spelling) (aliases : Aliases) (nodes : List Node) (numbers : List ℕ) (events : List Event) (i : ℕ) → map (term_at nodes) numbers ≡ begun words aliases events
    → i < length events → term_at nodes (get_or numbers i 0) ≡ begins words aliases (drop i events)
number_is words aliases nodes numbers [] i e within = absurd (omega arith)
number_is words aliases nodes [] (x ∷ events) i e within = absurd cc
number_is words aliases nodes (n ∷ ns) (x ∷ events) zero e within = cc
number_is words aliases nodes (n ∷ ns) (x ∷ events) (suc i) e within =
    let rest : map (term_at nodes) ns ≡ begun words aliases events = cc in
    number_is words aliases nodes ns events i rest (omega arith)

module _ (words : Spelling) (aliases : Aliases) (nodes : List Node) (numbers : List ℕ) (es : List Event) (i : ℕ) (e : Event) (now : Counts) (outer : List Counts) (out : Bool)
    (within : i < length es) (stands : Stands nodes numbers (begun words aliases es))
    (is : out ≡ (is_signature (get_or es i e).place && is_wrong now (term_at nodes (get_or numbers i 0)))) where
  tested : miscounts words aliases (held now outer) (get_or es i e) (drop (i + 1) es) ≡ out
  tested =
      ap (λ xs. is_signature (get_or es i e).place && is_wrong now (begins words aliases xs)) (sym (drop_more es i e within))
      ∙ ap (λ t. is_signature (get_or es i e).place && is_wrong now t) (sym (number_is words aliases nodes numbers es i stands.is within)) ∙ sym is

  pub miscount_step : (whole : Option ℕ) (more : Counts) (new : List Counts) → ahead i (first_in (pass_counts words) (miscounts words aliases) (held now outer) (drop i es)) ≡ whole → out ≡ false
      → held more new ≡ held_behind words (get_or es i e).place (get_or es i e).name (held now outer)
      → ahead (i + 1) (first_in (pass_counts words) (miscounts words aliases) (held more new) (drop (i + 1) es)) ≡ whole
  miscount_step whole more new so_far none passes =
      next_turn (pass_counts words) (miscounts words aliases) (held now outer) (held more new) es i e whole within so_far (tested ∙ none) passes

  pub miscount_found : (whole : Option ℕ) → ahead i (first_in (pass_counts words) (miscounts words aliases) (held now outer) (drop i es)) ≡ whole → out ≡ true → Some i ≡ whole
  miscount_found whole so_far some = sym (found (pass_counts words) (miscounts words aliases) (held now outer) es i e within (tested ∙ some)) ∙ so_far
