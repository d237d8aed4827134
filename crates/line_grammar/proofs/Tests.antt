-- What the tests of the conditions say.
use Rattle.std.proofs.Common.{◌≡◌, ℕ, zero, suc, Bool, true, false, not, List, [], ◌∷◌, ◌++◌, Some, refl}
use Rattle.line_grammar.specs.declared.Symbol.{Symbol}
use Rattle.line_grammar.specs.declared.Symbol.TheVariants.{At, Part}
use Rattle.line_grammar.specs.Grammar.{Line, Grammar, Has, here, later, Reads, done, takes, opens, leaves}
use Rattle.line_grammar.specs.Conditions.{at_place, both, implies, all_in, heads, first}

pub both_left : (a b : Bool) → both a b ≡ true → a ≡ true
both_left true b h = refl
both_left false b h = absurd cc

pub both_right : (a b : Bool) → both a b ≡ true → b ≡ true
both_right true b h = h
both_right false b h = absurd cc

pub both_put : (a b : Bool) → a ≡ true → b ≡ true → both a b ≡ true
both_put true b h k = k
both_put false b h k = absurd cc

pub implied : (a b : Bool) → implies a b ≡ true → a ≡ true → b ≡ true
implied true b h is = h
implied false b h is = absurd cc

pub not_true : (a : Bool) → not a ≡ true → a ≡ false
not_true true h = absurd cc
not_true false h = refl

-- each element of the list passes
pub all_has : {X : Type 0} (test : X → Bool) (x : X) (xs : List X) → Has x xs → all_in test xs ≡ true → test x ≡ true
all_has test x xs (here zs) h = both_left (test x) (all_in test zs) h
all_has test x xs (later z {xs = zs} m) h = all_has test x zs m (both_right (test z) (all_in test zs) h)

-- what stands at a place of the list passes
pub all_at : {X : Type 0} (test : X → Bool) (x : X) (n : ℕ) (xs : List X) → all_in test xs ≡ true → at_place n xs ≡ Some x → test x ≡ true
all_at test x n [] h is = absurd cc
all_at test x zero (y ∷ ys) h is = let e : y ≡ x = cc in rw (← e) (both_left (test y) (all_in test ys) h)
all_at test x (suc n) (y ∷ ys) h is = all_at test x n ys (both_right (test y) (all_in test ys) h) is

either_left : (a b : Bool) → a ≡ true → elim a [ true ↦ true | false ↦ b ] ≡ true
either_left true b h = refl
either_left false b h = absurd cc

either_right : (a b : Bool) → b ≡ true → elim a [ true ↦ true | false ↦ b ] ≡ true
either_right true b h = refl
either_right false b h = h

-- a line whose head fits is among the heads
pub has_heads : {P N K : Type 0} (g : Grammar P N K) (k : K) (line : Line P N) (lines : List (Line P N)) → Has line lines → g.fits line.0 k ≡ true
    → heads g k lines ≡ true
has_heads g k line lines (here ls) fit = either_left (g.fits line.0 k) (heads g k ls) fit
has_heads g k line lines (later l {xs = ls} m) fit = either_right (g.fits l.0 k) (heads g k ls) (has_heads g k line ls m fit)

either_behind : (a b c d : Bool) → (c ≡ true → d ≡ true) → elim a [ true ↦ true | false ↦ elim b [ true ↦ c | false ↦ false ] ] ≡ true
    → elim a [ true ↦ true | false ↦ elim b [ true ↦ d | false ↦ false ] ] ≡ true
either_behind true b c d more h = refl
either_behind false true c d more h = more h
either_behind false false c d more h = h

-- what may come first behind the symbols, where more stand between
pub first_behind : {P N K : Type 0} (g : Grammar P N K) (ls ss : List (Symbol P N)) (below : K → Bool) (k : K)
    → (first g ss (λ k. false) k ≡ true → below k ≡ true) → first g (ls ++ ss) (λ k. false) k ≡ true → first g ls below k ≡ true
first_behind g [] ss below k more h = more h
first_behind g (At p ∷ ls) ss below k more h = h
first_behind g (Part n ∷ ls) ss below k more h =
    either_behind (heads g k (g.lines n)) (g.empty n) (first g (ls ++ ss) (λ k. false) k) (first g ls below k) (first_behind g ls ss below k more) h

-- a sentence begins with what may come first
abbrev pub FirstOf : {P N K : Type 0} → Grammar P N K → List (Symbol P N) → List K → Type 0
FirstOf g ss [] = Unit {0}
FirstOf g ss (k ∷ ks) = first g ss (λ k. false) k ≡ true

first_left : (a b : Bool) → a ≡ true → elim a [ true ↦ true | false ↦ b ] ≡ true
first_left a b h = either_left a b h

first_skipped : (a b c : Bool) → b ≡ true → c ≡ true → elim a [ true ↦ true | false ↦ elim b [ true ↦ c | false ↦ false ] ] ≡ true
first_skipped true b c e h = refl
first_skipped false true c e h = h
first_skipped false false c e h = absurd cc

first_left_out : {P N K : Type 0} (g : Grammar P N K) (n : N) (ss : List (Symbol P N)) (ks : List K) → g.empty n ≡ true → FirstOf g ss ks → FirstOf g (Part n ∷ ss) ks
first_left_out g n ss [] e h = tt
first_left_out g n ss (k ∷ ks) e h = first_skipped (heads g k (g.lines n)) (g.empty n) (first g ss (λ k. false) k) e h

pub first_reads : {P N K : Type 0} (g : Grammar P N K) (ss : List (Symbol P N)) (ps : List P) (ks : List K) → Reads g ss ps ks → FirstOf g ss ks
first_reads g ss ps ks done = tt
first_reads g ss ps ks (takes p k fit r) = fit
first_reads g ss ps ks (opens n line k {ss = below} has fit r) =
    first_left (heads g k (g.lines n)) (elim (g.empty n) [ true ↦ first g below (λ k. false) k | false ↦ false ]) (has_heads g k line (g.lines n) has fit)
first_reads g ss ps ks (leaves n {ss = below} {ps = qs} {ks = ls} e r) = first_left_out g n below ls e (first_reads g below qs ls r)
