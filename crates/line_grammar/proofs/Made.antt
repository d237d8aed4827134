-- What was begun can be completed, at plain places.
use Rattle.std.proofs.Common.{◌≡◌, ℕ, zero, suc, Bool, true, false, List, [], ◌∷◌, ◌++◌, refl, sym, subst}
use Rattle.line_grammar.specs.declared.Symbol.{Symbol}
use Rattle.line_grammar.specs.declared.Symbol.TheVariants.{At, Part}
use Rattle.line_grammar.specs.Grammar.{Line, Grammar, Has, here, Reads, done, takes, opens, leaves}
use Rattle.line_grammar.specs.Conditions.{implies, all_in, all_plain, made, made_all, made_first, IsLl}
use Rattle.line_grammar.proofs.Tests.{both_left, both_right, both_put, implied}

-- the symbols have a reading at plain places
pub record Lives {P N K : Type 0} (g : Grammar P N K) (plain : P → Bool) (ss : List (Symbol P N)) : Type 0 where
  pub places : List P
  pub kinds : List K
  pub reads : Reads g ss places kinds
  pub plain_ones : all_in plain places ≡ true

lives_place : {P N K : Type 0} (g : Grammar P N K) (plain : P → Bool) (sample : P → K) → ((p : P) → implies (plain p) (g.fits p (sample p)) ≡ true)
    → (p : P) (ss : List (Symbol P N)) → plain p ≡ true → Lives g plain ss → Lives g plain (At p ∷ ss)
lives_place g plain sample fit p ss is h = record {
  places = p ∷ h.places;
  kinds = sample p ∷ h.kinds;
  reads = takes p (sample p) (implied (plain p) (g.fits p (sample p)) (fit p) is) h.reads;
  plain_ones = both_put (plain p) (all_in plain h.places) is h.plain_ones;
}

-- of symbols whose parts live
lives_on : {P N K : Type 0} (g : Grammar P N K) (plain : P → Bool) (sample : P → K) → ((p : P) → implies (plain p) (g.fits p (sample p)) ≡ true)
    → (part : N → Bool) → ((n : N) (ss : List (Symbol P N)) → part n ≡ true → Lives g plain ss → Lives g plain (Part n ∷ ss))
    → (ls ss : List (Symbol P N)) → made_all plain part ls ≡ true → Lives g plain ss → Lives g plain (ls ++ ss)
lives_on g plain sample fit part each [] ss m h = h
lives_on g plain sample fit part each (At p ∷ ls) ss m h =
    lives_place g plain sample fit p (ls ++ ss) (both_left (plain p) (made_all plain part ls) m)
    (lives_on g plain sample fit part each ls ss (both_right (plain p) (made_all plain part ls) m) h)
lives_on g plain sample fit part each (Part n ∷ ls) ss m h =
    each n (ls ++ ss) (both_left (part n) (made_all plain part ls) m)
    (lives_on g plain sample fit part each ls ss (both_right (part n) (made_all plain part ls) m) h)

lives_empty : {P N K : Type 0} (g : Grammar P N K) (plain : P → Bool) (n : N) (ss : List (Symbol P N)) → g.empty n ≡ true → Lives g plain ss → Lives g plain (Part n ∷ ss)
lives_empty g plain n ss e h = record { places = h.places; kinds = h.kinds; reads = leaves n e h.reads; plain_ones = h.plain_ones }

-- by the first line of a part
lives_first : {P N K : Type 0} (g : Grammar P N K) (plain : P → Bool) (sample : P → K) → ((p : P) → implies (plain p) (g.fits p (sample p)) ≡ true)
    → (part : N → Bool) → ((n : N) (ss : List (Symbol P N)) → part n ≡ true → Lives g plain ss → Lives g plain (Part n ∷ ss))
    → (n : N) (ss : List (Symbol P N)) (lines : List (Line P N)) → g.lines n ≡ lines → made_first plain part lines ≡ true → Lives g plain ss → Lives g plain (Part n ∷ ss)
lives_first g plain sample fit part each n ss [] is m h = absurd cc
lives_first {P = P} {N = N} g plain sample fit part each n ss (line ∷ lines) is m h =
    let head : plain line.0 ≡ true = both_left (plain line.0) (made_all plain part line.1) m in
    let behind : Lives g plain (line.1 ++ ss) = lives_on g plain sample fit part each line.1 ss (both_right (plain line.0) (made_all plain part line.1) m) h in
    let P1 : List (Line P N) → Type 0 = λ ls. Has line ls in
    record {
      places = line.0 ∷ behind.places;
      kinds = sample line.0 ∷ behind.kinds;
      reads = opens n line (sample line.0) (subst P1 (sym is) (here lines)) (implied (plain line.0) (g.fits line.0 (sample line.0)) (fit line.0) head) behind.reads;
      plain_ones = both_put (plain line.0) (all_in plain behind.places) head behind.plain_ones;
    }

lives_case : {P N K : Type 0} (g : Grammar P N K) (plain : P → Bool) (n : N) (ss : List (Symbol P N)) (b c : Bool) → g.empty n ≡ b
    → (c ≡ true → Lives g plain (Part n ∷ ss)) → elim b [ true ↦ true | false ↦ c ] ≡ true → Lives g plain ss → Lives g plain (Part n ∷ ss)
lives_case g plain n ss true c e more m h = lives_empty g plain n ss e h
lives_case g plain n ss false c e more m h = more m

lives_part : {P N K : Type 0} (g : Grammar P N K) (plain : P → Bool) (sample : P → K) → ((p : P) → implies (plain p) (g.fits p (sample p)) ≡ true)
    → (depth : ℕ) (n : N) (ss : List (Symbol P N)) → made g plain depth n ≡ true → Lives g plain ss → Lives g plain (Part n ∷ ss)
lives_part g plain sample fit zero n ss m h = lives_empty g plain n ss m h
lives_part g plain sample fit (suc depth) n ss m h =
    lives_case g plain n ss (g.empty n) (made_first plain (made g plain depth) (g.lines n)) refl
    (λ made_one. lives_first g plain sample fit (made g plain depth) (λ k ls is more. lives_part g plain sample fit depth k ls is more) n ss (g.lines n) refl made_one h) m h

-- all symbols with plain places live
pub lives : {P N K : Type 0} {g : Grammar P N K} {every : List K} {follow : N → K → Bool} {plain : P → Bool} {start : List (Symbol P N)} → IsLl g every follow plain start
    → (ss : List (Symbol P N)) → all_plain plain ss ≡ true → Lives g plain ss
lives ll [] h = record { places = []; kinds = []; reads = done; plain_ones = refl }
lives {g = g} {plain = plain} ll (At p ∷ ss) h =
    lives_place g plain ll.sample ll.sample_fits p ss (both_left (plain p) (all_plain plain ss) h) (lives ll ss (both_right (plain p) (all_plain plain ss) h))
lives {g = g} {plain = plain} ll (Part n ∷ ss) h =
    lives_part g plain ll.sample ll.sample_fits ll.depth n ss (ll.each_made n) (lives ll ss h)
