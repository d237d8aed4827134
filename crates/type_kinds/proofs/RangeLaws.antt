-- One event more of the ranges.
use Rattle.std.proofs.Common.{◌≡◌, ℕ, ◌+◌, ◌<◌, Bool, false, List, length, drop, get_or, Option, sym, ◌∙◌, ap}
use Rattle.text_events.specs.declared.event.Event.{Event}
use Rattle.text_types.specs.Spelling.{Spelling}
use Rattle.text_types.specs.Items.{Aliases}
use Rattle.type_kinds.specs.First.{first_in}
use Rattle.type_kinds.specs.Ranges.{Listed, out_at, is_out, pass_listed, number_width, listed_at, is_minus}
use Rattle.type_kinds.proofs.FirstIn.{ahead, next_turn}

abbrev pub listed : ℕ → Bool → Listed
listed width minus = record { width = width; minus = minus }

pub range_step : (words : Spelling) (aliases : Aliases) (width more : ℕ) (minus next : Bool) (out : Bool) (typed : Option ℕ) (es : List Event) (i : ℕ) (e : Event) (whole : Option ℕ) → i < length es
    → ahead i (first_in (pass_listed words) (is_out words aliases) (listed width minus) (drop i es)) ≡ whole
    → out ≡ out_at words (listed width minus) (get_or es i e).place (get_or es i e).name typed → out ≡ false → typed ≡ number_width words aliases (drop (i + 1) es)
    → more ≡ listed_at words (get_or es i e).place (get_or es i e).name width → next ≡ is_minus (get_or es i e).place
    → ahead (i + 1) (first_in (pass_listed words) (is_out words aliases) (listed more next) (drop (i + 1) es)) ≡ whole
range_step words aliases width more minus next out typed es i e whole within so_far is none decided passes minuses =
    next_turn (pass_listed words) (is_out words aliases) (listed width minus) (listed more next) es i e whole within so_far
    (ap (out_at words (listed width minus) (get_or es i e).place (get_or es i e).name) (sym decided) ∙ sym is ∙ none)
    (ap (λ w. listed w next) passes ∙ ap (listed (listed_at words (get_or es i e).place (get_or es i e).name width)) minuses)
