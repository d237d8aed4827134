-- Still words, names and locations.
use Rattle.std.proofs.Common.{ℕ, List, refl}
use Rattle.text_grammar.specs.declared.places.Place.{Place}
use Rattle.text_scopes.specs.declared.bodies.Class.{Class}
use Rattle.event_trees.specs.Wording.{Wording}
use Rattle.text_forms.specs.Forms.{IsLoc, IsNames, Still, loc, name, no_loc, no_names, still_end, still_more}
use Rattle.read_states.specs.States.{Move, State}
use Rattle.read_states.proofs.Words.{Alike, alike_join, alike_refl, plain_alike, still_plain}

module _ (words : Wording) (class : ℕ → Class) (numbers : List ℕ) where
  abbrev pub T : Place → State → State → Type 0
  T p x y = Move words class numbers p x y

  pub still_alike : {x y : State} → Still T x y → Alike words class numbers x y
  still_alike (still_end x) = alike_refl words class numbers x
  still_alike (still_more p h m more) = alike_join words class numbers (plain_alike words class numbers (still_plain p h) m) (still_alike more)

  pub loc_alike : {x y : State} → IsLoc T x y → Alike words class numbers x y
  loc_alike (no_loc x) = alike_refl words class numbers x
  loc_alike (loc b s e) = alike_join words class numbers (plain_alike words class numbers refl b) (alike_join words class numbers (still_alike s) (plain_alike words class numbers refl e))

  pub names_alike : {x y : State} → IsNames T x y → Alike words class numbers x y
  names_alike (no_names x) = alike_refl words class numbers x
  names_alike (name n s more) = alike_join words class numbers (plain_alike words class numbers refl n) (alike_join words class numbers (still_alike s) (names_alike more))
