-- What a parse by `clap` says of the words.
use Rattle.std.proofs.Common.{◌≡◌, ◌∙◌, inl, inr, List, [], ◌∷◌, Option, Some, None, true, refl, ap, subst}
use Rattle.std.specs.Prelude.{option_and_then, option_map}
use Rattle.clap.specs.Faults.{fault_of, is_simple_and_free}
use Rattle.clap.specs.Kinds.{HasKind, IsAmong, Kinds}
use Rattle.clap.specs.Simple.{App, HasMatchesOf, is_simple, matches_of}
use Rattle.clap.specs.Values.{kind_of}
use Rattle.clap.specs.Walk.{Text, rows_of}
use Rattle.clap.specs.Words.{found_of}
use Rattle.clap.specs.declared.error.Error.{Error}
use Rattle.clap.specs.declared.error.kind.ErrorKind.TheVariants as kind
use Rattle.clap.specs.declared.parser.matches.ArgMatches.{ArgMatches}
use Rattle.tool_words.specs.Uses.{Given, Use, given_by, given_in, if_once, uses_of}
use Rattle.tool_words.specs.Parsed.{Shows, app, none_is_short}
use Rattle.tool_words.proofs.App.{simple, simple_and_free}
use Rattle.tool_words.proofs.Matches.{Said, said, shows_given}

pub form_found : (a : App) (g : Given) (ws : List Text) (m : ArgMatches) → a ≡ app → none_is_short ws ≡ true → (is_simple_and_free a ≡ true → fault_of a ws ≡ [])
    → HasMatchesOf a ws m → Shows (found_of m) g → Some g ≡ given_in ws
form_found a g ws m is short kinds matches shows = go (option_and_then if_once (uses_of ws)) (said ws short)
  where
    none : fault_of app ws ≡ []
    none = subst (λ x. fault_of x ws ≡ []) is (kinds (ap is_simple_and_free is ∙ simple_and_free))

    found : rows_of (found_of m) ≡ matches_of app ws
    found = (matches (ap is_simple is ∙ simple)).0 ∙ ap (λ x. matches_of x ws) is

    go : (o : Option (List Use)) → Said ws o → Some g ≡ option_map given_by o
    go None s = absurd (s none)
    go (Some us) s = ap Some (shows_given (found_of m) us g shows (found ∙ s.1))

some_kind : (e : Error) (ks : Kinds) → IsAmong (kind_of e) ks → ks ≡ [] → ⊥
some_kind e [] h is = h
some_kind e (k ∷ ks) h is = cc

pub form_refused : (a : App) (ws : List Text) (e : Error) → a ≡ app → none_is_short ws ≡ true → (is_simple_and_free a ≡ true → HasKind (fault_of a ws) e)
    → (kind_of e ≡ kind.OutOfMemory → ⊥) → None ≡ given_in ws
form_refused a ws e is short kinds other = go (option_and_then if_once (uses_of ws)) (said ws short)
  where
    has : HasKind (fault_of app ws) e
    has = subst (λ x. HasKind (fault_of x ws) e) is (kinds (ap is_simple_and_free is ∙ simple_and_free))

    go : (o : Option (List Use)) → Said ws o → None ≡ option_map given_by o
    go None s = refl
    go (Some us) s = elim has [
      | inl memory ↦ absurd (other memory)
      | inr among ↦ absurd (some_kind e (fault_of app ws) among s.0)
    ]
