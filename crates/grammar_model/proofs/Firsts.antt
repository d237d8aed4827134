-- What the first token of a piece says of the tokens behind another.
use Rattle.std.proofs.Common.{◌≡◌, ℕ, zero, suc, Bool, true, false, ◌&&◌, ◌||◌, List, [], ◌∷◌, ◌++◌, length, refl, ◌≤◌, arith}
use Rattle.std.proofs.lemmas.List.{length-append}
use Rattle.grammar_model.specs.Sets.{also, Apart}
use Rattle.grammar_model.specs.Syntax.{begins}
use Rattle.grammar_model.specs.Reads.{SameFirst, Opens}

-- Truth values

pub or_left : (p q : Bool) → (p || q) ≡ false → p ≡ false
or_left true q e = e
or_left false q e = refl

pub or_right : (p q : Bool) → (p || q) ≡ false → q ≡ false
or_right true q e = absurd cc
or_right false q e = e

pub or_true : (p q : Bool) → q ≡ true → (p || q) ≡ true
or_true true q e = refl
or_true false q e = e

pub or_only : (p : Bool) → (p || false) ≡ true → p ≡ true
or_only true e = refl
or_only false e = e

pub not_both : (p q : Bool) → p ≡ true → (p ≡ true → q ≡ true → ⊥) → q ≡ false
not_both p true hp clash = absurd (clash hp refl)
not_both p false hp clash = refl

-- Sequences

pub same_after : {W : Type 0} (front r s : List W) → SameFirst r s → SameFirst (front ++ r) (front ++ s)
same_after [] r s h = h
same_after (t ∷ front) r s h = refl

pub same_begins : {W K : Type 0} (kind : W → K) (p : K → Bool) (r s : List W) → SameFirst r s → begins kind p s ≡ begins kind p r
same_begins kind p [] [] h = refl
same_begins kind p [] (u ∷ us) h = absurd h
same_begins kind p (t ∷ ts) [] h = absurd h
same_begins kind p (t ∷ ts) (u ∷ us) h = rw h refl

pub begins_again : {W K : Type 0} (kind : W → K) (p : K → Bool) (ts front rest other : List W) (b : Bool)
    → begins kind p ts ≡ b → ts ≡ front ++ rest → SameFirst rest other → begins kind p (front ++ other) ≡ b
begins_again kind p ts front rest other b e whole same =
    rw (same_begins kind p (front ++ rest) (front ++ other) (same_after front rest other same)) (rw (← whole) e)

pub stands_left : {W K : Type 0} (kind : W → K) (p q : K → Bool) (rest : List W) → begins kind (λ k. p k || q k) rest ≡ false → begins kind p rest ≡ false
stands_left kind p q [] e = refl
stands_left kind p q (t ∷ ts) e = or_left (p (kind t)) (q (kind t)) e

pub stands_right : {W K : Type 0} (kind : W → K) (p q : K → Bool) (rest : List W) → begins kind (λ k. p k || q k) rest ≡ false → begins kind q rest ≡ false
stands_right kind p q [] e = refl
stands_right kind p q (t ∷ ts) e = or_right (p (kind t)) (q (kind t)) e

-- a piece that is not empty is begun
pub full_begins : {W K : Type 0} (kind : W → K) (empty : Bool) (p : K → Bool) (front rest : List W) → empty ≡ false → Opens kind empty p front → begins kind p (front ++ rest) ≡ true
full_begins kind empty p [] rest full opens = absurd cc
full_begins kind empty p (t ∷ ts) rest full opens = opens

pub apart_begins : {W K : Type 0} (kind : W → K) (p q : K → Bool) (ts : List W) → Apart p q → begins kind p ts ≡ true → begins kind q ts ≡ false
apart_begins kind p q [] apart e = refl
apart_begins kind p q (t ∷ ts) apart e = not_both (p (kind t)) (q (kind t)) e (apart (kind t))

pub opens_left : {W K : Type 0} (kind : W → K) (a_empty b_empty : Bool) (p q : K → Bool) (ts : List W)
    → Opens kind a_empty p ts → Opens kind (a_empty || b_empty) (λ k. p k || q k) ts
opens_left kind a_empty b_empty p q [] h = rw h refl
opens_left kind a_empty b_empty p q (t ∷ ts) h = rw h refl

pub opens_right : {W K : Type 0} (kind : W → K) (a_empty b_empty : Bool) (p q : K → Bool) (ts : List W)
    → Opens kind b_empty q ts → Opens kind (a_empty || b_empty) (λ k. p k || q k) ts
opens_right kind a_empty b_empty p q [] h = or_true a_empty b_empty h
opens_right kind a_empty b_empty p q (t ∷ ts) h = or_true (p (kind t)) (q (kind t)) h

pub opens_full : {W K : Type 0} (kind : W → K) (empty any : Bool) (p : K → Bool) (front back : List W) → empty ≡ false → Opens kind empty p front → Opens kind any p (front ++ back)
opens_full kind empty any p [] back full opens = absurd cc
opens_full kind empty any p (t ∷ ts) back full opens = opens

pub opens_any : {W K : Type 0} (kind : W → K) (empty : Bool) (p : K → Bool) (ts : List W) → Opens kind empty p ts → Opens kind true p ts
opens_any kind empty p [] opens = refl
opens_any kind empty p (t ∷ ts) opens = opens

-- what may follow b may follow a
pub follows : {W K : Type 0} (kind : W → K) (empty : Bool) (starts goes : K → Bool) (back rest : List W) → Apart starts goes
    → Opens kind empty starts back → (empty ≡ true → begins kind goes rest ≡ false) → begins kind goes (back ++ rest) ≡ false
follows kind empty starts goes [] rest apart opens stands = stands opens
follows kind empty starts goes (t ∷ back) rest apart opens stands = not_both (starts (kind t)) (goes (kind t)) opens (apart (kind t))

pub stands_also : {W K : Type 0} (kind : W → K) (empty : Bool) (p q : K → Bool) (rest : List W)
    → begins kind (λ k. also empty (p k) (q k)) rest ≡ false → begins kind p rest ≡ false
stands_also kind empty p q [] e = refl
stands_also kind true p q (t ∷ ts) e = or_left (p (kind t)) (q (kind t)) e
stands_also kind false p q (t ∷ ts) e = e

pub stands_too : {W K : Type 0} (kind : W → K) (empty : Bool) (p q : K → Bool) (rest : List W)
    → begins kind (λ k. also empty (p k) (q k)) rest ≡ false → empty ≡ true → begins kind q rest ≡ false
stands_too kind empty p q [] e is = refl
stands_too kind true p q (t ∷ ts) e is = or_right (p (kind t)) (q (kind t)) e
stands_too kind false p q (t ∷ ts) e is = absurd cc

also_left : (e p q : Bool) → p ≡ true → also e p q ≡ true
also_left true p q h = rw h refl
also_left false p q h = h

pub opens_both : {W K : Type 0} (kind : W → K) (a_empty b_empty : Bool) (p q : K → Bool) (front back : List W)
    → Opens kind a_empty p front → Opens kind b_empty q back → Opens kind (a_empty && b_empty) (λ k. also a_empty (p k) (q k)) (front ++ back)
opens_both kind a_empty b_empty p q [] [] ha hb = rw ha hb
opens_both kind a_empty b_empty p q [] (t ∷ ts) ha hb = rw ha (or_true (p (kind t)) (q (kind t)) hb)
opens_both kind a_empty b_empty p q (t ∷ ts) back ha hb = also_left a_empty (p (kind t)) (q (kind t)) ha

-- behind a piece that is not empty fewer tokens are left
pub fewer : {W K : Type 0} (kind : W → K) (empty : Bool) (p : K → Bool) (front back : List W) (n : ℕ) → empty ≡ false → Opens kind empty p front
    → length (front ++ back) ≤ suc n → length back ≤ n
fewer kind empty p [] back n full opens h = absurd cc
fewer kind empty p (t ∷ front) back n full opens h = omega (arith, length-append front back)

pub none_left : {W K : Type 0} (kind : W → K) (empty : Bool) (p : K → Bool) (front back : List W) → empty ≡ false → Opens kind empty p front
    → length (front ++ back) ≤ zero → ⊥
none_left kind empty p [] back full opens h = absurd cc
none_left kind empty p (t ∷ front) back full opens h = omega arith

pub begun_left : {W K : Type 0} (kind : W → K) (p : K → Bool) (ts : List W) → begins kind p ts ≡ true → length ts ≤ zero → ⊥
begun_left kind p [] begun room = absurd cc
begun_left kind p (t ∷ ts) begun room = omega arith

pub none_begin : {W K : Type 0} (kind : W → K) (p : K → Bool) (ts : List W) → length ts ≤ zero → begins kind p ts ≡ false
none_begin kind p [] room = refl
none_begin kind p (t ∷ ts) room = absurd (omega arith)
