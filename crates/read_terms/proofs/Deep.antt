-- Regions that are read are closed: how many are open around a place, told by the words behind it.
use Rattle.std.proofs.Common.{◌≡◌, ℕ, suc, ◌-◌, ◌<◌, Bool, true, false, List, [], ◌∷◌, length, refl, sym, ap, ◌∙◌, subst, arith, true≢false}
use Rattle.text_grammar.specs.declared.places.Place.{Place}
use Rattle.text_grammar.specs.declared.places.Place.TheVariants as places
use Rattle.text_forms.specs.Forms.{IsArgs, IsBlocks, IsBody, IsFile, IsLoc, IsNames, IsOps, IsRegions, Still, arg, block, body, file_alias, file_op, is_alias, is_still, loc, name, no_args, no_blocks, no_file, no_loc, no_names, no_ops, no_regions, op, region, still_end, still_more}
use Rattle.text_forms.specs.Laws.{Next}
use Rattle.term_table.specs.Terms.{Term}
use Rattle.event_trees.specs.Wording.{Wording}
use Rattle.event_trees.specs.Levels.{Levels, with_word}

-- how many regions are closed behind that are not opened there
abbrev pub deep : List Place → ℕ
deep [] = 0
deep (places.RegionClose ∷ ps) = suc (deep ps)
deep (places.RegionOpen ∷ ps) = deep ps - 1
deep (_ ∷ ps) = deep ps

-- each region that opens is closed
abbrev pub AllClosed : List Place → Type 0
AllClosed [] = Unit {0}
AllClosed (p ∷ ps) = (p ≡ places.RegionOpen → 0 < deep ps) × AllClosed ps

record Even (x y : List Place) : Type 0 where
  same : deep x ≡ deep y
  closed : AllClosed y → AllClosed x

abbrev is_flat : Place → Bool
is_flat places.RegionOpen = false
is_flat places.RegionClose = false
is_flat _ = true

flat_deep : (p : Place) (ps : List Place) → is_flat p ≡ true → deep (p ∷ ps) ≡ deep ps
flat_deep places.RegionOpen ps h = absurd (true≢false (sym h))
flat_deep places.RegionClose ps h = absurd (true≢false (sym h))
flat_deep _ ps h = refl

flat : (p : Place) {x y : List Place} → is_flat p ≡ true → Next p x y → Even x y
flat p {y = y} h n = record {
  same = ap deep n ∙ flat_deep p y h;
  closed = λ c. subst AllClosed (sym n) (λ e. absurd (true≢false (sym h ∙ ap is_flat e)), c);
}

even_join : {x y z : List Place} → Even x y → Even y z → Even x z
even_join a b = record { same = a.same ∙ b.same; closed = λ c. a.closed (b.closed c) }

even_refl : (x : List Place) → Even x x
even_refl x = record { same = refl; closed = λ c. c }

still_flat : (p : Place) → is_still p ≡ true → is_flat p ≡ true
still_flat places.RegionOpen h = absurd (true≢false (sym h))
still_flat places.RegionClose h = absurd (true≢false (sym h))
still_flat _ h = refl

alias_flat : (p : Place) → is_alias p ≡ true → is_flat p ≡ true
alias_flat places.RegionOpen h = absurd (true≢false (sym h))
alias_flat places.RegionClose h = absurd (true≢false (sym h))
alias_flat _ h = refl

still_even : {x y : List Place} → Still Next x y → Even x y
still_even (still_end x) = even_refl x
still_even (still_more p s m more) = even_join (flat p (still_flat p s) m) (still_even more)

loc_even : {x y : List Place} → IsLoc Next x y → Even x y
loc_even (no_loc x) = even_refl x
loc_even (loc b s e) = even_join (flat places.LocWord refl b) (even_join (still_even s) (flat places.LocClose refl e))

names_even : {x y : List Place} → IsNames Next x y → Even x y
names_even (no_names x) = even_refl x
names_even (name n s more) = even_join (flat places.ResultName refl n) (even_join (still_even s) (names_even more))

args_even : {x y : List Place} → IsArgs Next x y → Even x y
args_even (no_args s) = still_even s
args_even (arg s a t l more) = even_join (still_even s) (even_join (flat places.ArgName refl a) (even_join (still_even t) (even_join (loc_even l) (args_even more))))

abbrev is_open : Place → Bool
is_open places.RegionOpen = true
is_open _ = false

region_even : {a b d e : List Place} → Next places.RegionOpen a b → Even b d → Next places.RegionClose d e → Even a e
region_even {a} {b} {d} {e} o i c =
    let inner : deep b ≡ suc (deep e) = i.same ∙ ap deep c in
    let outer : deep a ≡ deep b - 1 = ap deep o in
    record {
      same = omega (arith, inner, outer);
      closed = λ k. subst AllClosed (sym o) (λ q. omega (arith, inner), i.closed (subst AllClosed (sym c) (λ q. absurd (never q), k)));
    }
  where
    never : places.RegionClose ≡ places.RegionOpen → ⊥
    never q = true≢false (sym (ap is_open q))

mutual
  body_even : {x y : List Place} → IsBody Next x y → Even x y
  body_even (body s regions t colon begins types arrow results l) =
      even_join (still_even s) (even_join (regions_even regions) (even_join (still_even t) (even_join (flat places.SignatureColon refl colon) (even_join (flat places.SignatureOpen refl begins) (even_join (still_even types) (even_join (flat places.SignatureArrow refl arrow) (even_join (still_even results) (loc_even l))))))))

  ops_even : {x y : List Place} → IsOps Next x y → Even x y
  ops_even (no_ops x) = even_refl x
  ops_even (op names o b more) = even_join (names_even names) (even_join (flat places.OpName refl o) (even_join (body_even b) (ops_even more)))

  regions_even : {x y : List Place} → IsRegions Next x y → Even x y
  regions_even (no_regions s) = still_even s
  regions_even (region s o ops blocks close more) = even_join (still_even s) (even_join (region_even o (even_join (ops_even ops) (blocks_even blocks)) close) (regions_even more))

  blocks_even : {x y : List Place} → IsBlocks Next x y → Even x y
  blocks_even (no_blocks x) = even_refl x
  blocks_even (block l args colon ops more) =
      even_join (flat places.BlockLabel refl l) (even_join (args_even args) (even_join (flat places.BlockColon refl colon) (even_join (ops_even ops) (blocks_even more))))

file_even : {x y : List Place} → IsFile Next x y → Even x y
file_even (no_file x) = even_refl x
file_even (file_op names o b more) = even_join (names_even names) (even_join (flat places.OpName refl o) (even_join (body_even b) (file_even more)))
file_even (file_alias p h m s l more) = even_join (flat p (alias_flat p h) m) (even_join (still_even s) (even_join (loc_even l) (file_even more)))

pub file_closed : (ps : List Place) → IsFile Next ps [] → AllClosed ps
file_closed ps f = (file_even f).closed tt

-- as many levels are behind a word, and the one of the file
pub word_deep : (words : Wording) (p : Place) (key number : ℕ) (term : Term) (ls : Levels) (ps : List Place) → (p ≡ places.RegionOpen → 0 < deep ps) → length ls ≡ suc (deep ps)
    → length (with_word words (record { place = p; name = key; number = number; term = term }) ls) ≡ suc (deep (p ∷ ps))
word_deep words places.RegionClose key number term ls ps h e = ap suc e
word_deep words places.RegionOpen key number term [] ps h e = absurd (omega (arith, e))
word_deep words places.RegionOpen key number term (l ∷ []) ps h e = let k : 0 < deep ps = h refl in absurd (omega (arith, e, k))
word_deep words places.RegionOpen key number term (l ∷ m ∷ ls) ps h e = let k : 0 < deep ps = h refl in omega (arith, e, k)
word_deep words places.OpName key number term [] ps h e = e
word_deep words places.OpName key number term (l ∷ ls) ps h e = e
word_deep words _ key number term [] ps h e = e
word_deep words _ key number term (l ∷ ls) ps h e = e
