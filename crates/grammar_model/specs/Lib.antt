-- Grammars as values over lists of tokens. How a client uses them:
--
-- 1. Tokens are `Copy` structs, lexed first into a `Vec`; each has a kind. `kind_of : Token → Kind` is an `abbrev`. A set of kinds is a `Kind → Bool`, best by cases, as
--    `fits : Wanted → Kind → Bool`, with one row of an enum `Wanted` for each place of the grammar.
-- 2. Each production is `unfoldable pub name : Syntax kind_of X`, made of `token p`, `a then b`, `mapped f s`, `p ▸ s`, `s ◂ p`, `maybe s`, `a or b`, `many s`, `parted p s` and
--    `listed p s` (Syntax). `then`, `▸` and `or` nest to the right, and `◂` binds closest. Each part that a reader of the code has is a production of its own.
--    `many`, `maybe` and `or` decide by the next token. Recursion goes by a depth: `nest : ℕ → Syntax kind_of X`, where depth 0 has some sentence too.
-- 3. Once for its enum the client writes the list `every` of all kinds, the `place` of each in it, `has_every : HasEvery place every` (a `refl` a kind), and
--      apart : (p q : Kind → Bool) → none_both p q every ≡ true → Apart p q
--      apart p q none = apart_by place every has_every p q none
--    With `a : Kind → Token` (some token of that kind) the laws of a production are as many lines as it has parts, and each side condition is `refl`:
--      option_laws : IsSyntax option_part              -- option_part = fits OpenBrace ▸ fits Name ▸ value_part ◂ fits CloseBrace
--      unfolding option_part value_part a every        -- the parts that its sets are computed from
--      option_laws = before_laws (fits OpenBrace) (a OpenBrace) refl
--        (before_laws (fits Name) (a Name) refl
--          (behind_laws (fits CloseBrace) (a CloseBrace) refl value_laws (apart _ _ refl)))
--    then_laws la lb (apart _ _ refl) · mapped_laws f la · maybe_laws la refl · or_laws la lb refl refl (apart _ _ refl) · many_laws la refl (apart _ _ refl)
--    listed_laws (fits Comma) (a Comma) refl la refl (apart _ _ refl). Write the sets of `token`, `▸`, `◂` and `listed` out: antt does not find them.
-- 4. A reader is `fn read_part(tokens: &[Token]) -> Result<(Part, &[Token]), Stop<'_, Token>> ensures { Gives (λ x. (view x.0, x.1.now)) result (part.read tokens.now) }`, made of
--    calls and `?`, under `#[tactic(auto, unfolding(crate::specs::Grammar::part))]`: no proof file. What decides is
--    `fn part_next(tokens: &[Token]) -> bool ensures { result ≡ begins kind_of part.starts tokens.now }`, unfolding what the set is computed from.
--    A loop `'each: for _ in 0..tokens.len() { if !next(rest) { return Ok((found, rest)); } let (piece, behind) = read_piece(rest)?; found.push(piece)?; rest = behind; }` keeps
--    `IsAhead piece l.found.items (length l.tokens - l.counter) l.rest WHOLE` (Ahead), and `no_more`, `stops_early` and `one_more` of proofs/Loops answer its goals in a line each;
--    behind a first piece WHOLE is `with_front (first ∷ []) ((many (p ▸ piece)).read tokens)`, as `listed` has it. It ends in `Ok((found, rest))` too, which needs no answer.
-- 5. The call over a whole text gives `whole_of s tokens` (Expected), and `gives_found`, `gives_expected` and `gives_only` of proofs/Whole turn that into what it is to promise:
--    `s.Written` at Ok, `IsExpected` at a refusal, and Ok for each sentence. `one_reading`, `one_place` and `not_expected` say that value and place are one.
pub mod Sets
pub mod Syntax
pub mod Expected
pub mod Reads
pub mod Stopping
pub mod Ahead
