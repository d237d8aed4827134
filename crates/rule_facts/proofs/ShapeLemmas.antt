-- A name that has no place in the table has no shape.
use Rattle.std.proofs.Common.{◌≡◌, ℕ, ◌+◌, Bool, true, false, List, [], ◌∷◌, Option, Some, None, refl}
use Rattle.std.specs.Prelude.{if◌then◌else◌}
use Rattle.std.specs.Option.{option_map}
use Rattle.std.specs.Str.{bytes_eq}
use Rattle.std.proofs.lemmas.Option.{none-some}
use Rattle.rule_model.specs.Rows.{place_in, Row, rows, shape_in}
use Rattle.op_catalog.specs.Table.{place_of, shape_of}

no_place : (o : Option ℕ) → None ≡ option_map (λ n. n + 1) o → None ≡ o
no_place None e = refl
no_place (Some n) e = absurd (none-some (n + 1) e)

none_in : (name : List ℕ) (rs : List Row) → None ≡ place_in name rs → None ≡ shape_in name rs
none_in name [] e = refl
none_in name (r ∷ rs) e = go (bytes_eq r.0 name) e (none_in name rs)
  where
    go : (b : Bool) → None ≡ (if b then Some 0 else option_map (λ n. n + 1) (place_in name rs)) → (None ≡ place_in name rs → None ≡ shape_in name rs)
        → None ≡ (if b then Some r.1 else shape_in name rs)
    go true k rest = absurd (none-some 0 k)
    go false k rest = rest (no_place (place_in name rs) k)

pub no_shape : (name : List ℕ) → None ≡ place_of name → None ≡ shape_of name
unfolding place_of shape_of
no_shape name e = none_in name rows e
