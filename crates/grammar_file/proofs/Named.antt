-- Where rules stand for a document, each symbol in them is the place of a name.
use Rattle.std.proofs.Common.{◌≡◌, inl, inr, ℕ, zero, suc, ◌+◌, ◌-◌, ◌<◌, ◌≤◌, List, [], ◌∷◌, ◌++◌, length, get_or, take, drop, Bool, true, false, refl, sym, ◌∙◌, subst, arith}
use Rattle.std.specs.Prelude.{nat_lt, ◌&&◌, eqb, if◌then◌else◌}
use Rattle.std.proofs.lemmas.Bool.{cases_lt, eqb-true}
use Rattle.std.proofs.lemmas.Bool.Decides.{nat_tests}
use Rattle.std.proofs.lemmas.List.{take-append-drop, length-take-le}
use Rattle.std.proofs.lemmas.List.Sums.{sum_by-cons}
use Rattle.std.proofs.lemmas.Option.{slice_get_within}
use Rattle.plain_tree.specs.declared.kind.Kind.{Kind}
use Rattle.plain_tree.specs.Tree.{Tree, node, Trees, none, more}
use Rattle.rule_arena.specs.Preorder.{AreTerms}
use Rattle.rule_arena.specs.declared.label.Label.{Label}
use Rattle.rule_arena.specs.declared.label.Label.TheVariants.{Bottom, Symbol, Call, Param}
use Rattle.slt_grammar.specs.Algebras.{Algebra, meanings, ranks_of, all_meanings}
use Rattle.slt_grammar.specs.Bodies.{arity, params, calls_in, CallsBelow}
use Rattle.slt_grammar.specs.Coding.{CodesTo, Codes}
use Rattle.slt_grammar.specs.Grammars.{IsGrammar, IsSwept, body_at, rank_at, calls_of, value}
use Rattle.slt_grammar.specs.Standing.{StandsFor}
use Rattle.slt_grammar.specs.Terms.{Term, Leaf, up}
use Rattle.slt_grammar.specs.declared.rules.Rule.{Rule}
use Rattle.slt_grammar.proofs.Carrying.{up-value_at}
use Rattle.slt_grammar.proofs.Meanings.{only, meanings-whole}
use Rattle.slt_grammar.proofs.RuleMeanings.{memo-at, rank_at-ranks_of}
use Rattle.grammar_file.specs.FileBytes.{AreBytesOf}
use Rattle.grammar_file.specs.Files.{SymbolsBelow, AreNamed, IsFileOf}

-- whether all symbols of a term are below a number
abbrev below : ℕ → Algebra Bool
below names = record { bottom = true; node = λ f a b. nat_lt f names && (a && b) }

abbrev AllTrue : List Bool → Type 0
AllTrue [] = Unit {0}
AllTrue (b ∷ bs) = (b ≡ true) × AllTrue bs

and-parts : (a b : Bool) → (a && b) ≡ true → (a ≡ true) × (b ≡ true)
and-parts true true e = (refl, refl)
and-parts true false e = cc
and-parts false b e = cc

true-append : (xs ys : List Bool) → AllTrue xs → AllTrue ys → AllTrue (xs ++ ys)
true-append [] ys h k = k
true-append (x ∷ xs) ys h k = (h.0, true-append xs ys h.1 k)

true-join : (n : ℕ) (all : List Bool) → AllTrue (take n all) → AllTrue (drop n all) → AllTrue all
true-join n all h k = subst AllTrue (take-append-drop n all) (true-append (take n all) (drop n all) h k)

true-two : (kids : List Bool) → length kids ≡ 2 → get_or kids 0 true ≡ true → get_or kids 1 true ≡ true → AllTrue kids
true-two [] n a b = tt
true-two (x ∷ []) n a b = (a, tt)
true-two (x ∷ y ∷ []) n a b = (a, (b, tt))
true-two (x ∷ y ∷ z ∷ xs) n a b = absurd (omega arith)

-- ---- what is true of a term's code is true of its symbols
coded : (names : List (Kind × List ℕ)) (last : Term) (ts : Trees) (t : Term) → up (below (length names)) last [] ≡ true → CodesTo names last ts t → up (below (length names)) t [] ≡ true
coded names last none t h c = subst (λ u. up (below (length names)) u [] ≡ true) (sym c) h
coded names last (more (node kind name value kids) ts) t h (symbol, first, second, there, codes, others, is) =
    let small : nat_lt symbol (length names) ≡ true = let within = slice_get_within names symbol (kind, name) there in grind (arith, nat_tests) in
    let a = coded names Leaf kids first refl codes in
    let b = coded names last ts second h others in
    let whole : (nat_lt symbol (length names) && (up (below (length names)) first [] && up (below (length names)) second [])) ≡ true = rw (small, a, b) refl in
    subst (λ u. up (below (length names)) u [] ≡ true) (sym is) whole

-- ---- calls
caller : (G : List Rule) (q : ℕ) → 0 < calls_of G q → (r : ℕ) × (r < length G) × (0 < calls_in q (body_at G r))
caller [] q h = absurd (omega arith)
caller (R ∷ Rs) q h = elim (cases_lt 0 (calls_in q R.body)) [
  | inl some ↦ (0, omega arith, some)
  | inr other ↦
      let fewer : 0 < calls_of Rs q = omega (arith, sum_by-cons (λ (S : Rule). calls_in q S.body) R Rs) in
      let found = caller Rs q fewer in
      (suc found.0, omega (arith, found.1), found.2)
]

module _ (names : ℕ) (G : List Rule) (g : IsGrammar G) where
  -- what a rule makes of its arguments
  abbrev told : ℕ → List Bool → Bool
  told q args = get_or (all_meanings (below names) G) q (λ _. true) args

  abbrev IsReached : ℕ → Type 0
  IsReached q = (args : List Bool) × (length args ≡ rank_at G q) × (told q args ≡ true)

  abbrev IsStrict : ℕ → Type 0
  IsStrict q = (args : List Bool) → length args ≡ rank_at G q → told q args ≡ true → AllTrue args

  abbrev CallsReached : List Label → Type 0
  CallsReached [] = Unit {0}
  CallsReached (Call q ∷ ls) = IsReached q × CallsReached ls
  CallsReached (l ∷ ls) = CallsReached ls

  -- labels whose meanings are true
  pub record AreTrue (args : List Bool) (ls : List Label) : Type 0 where
    pub arguments : AllTrue args
    pub symbols : SymbolsBelow names ls
    pub calls : CallsReached ls

  labels-true : (r n : ℕ) (args : List Bool) (ls : List Label) → ((q : ℕ) → q < r → IsStrict q) → CallsBelow r ls → AreTerms (arity (ranks_of G)) n ls → length args ≡ params ls
      → AllTrue (meanings (below names) (ranks_of G) (all_meanings (below names) G) args ls []) → AreTrue args ls
  labels-true r n [] [] strict b t e h = record { arguments = tt; symbols = tt; calls = tt }
  labels-true r n (a ∷ args) [] strict b t e h = absurd (omega arith)
  labels-true r zero args (l ∷ ls) strict b t e h = absurd t
  labels-true r (suc n) [] (Param ∷ ls) strict b t e h = absurd (omega arith)
  labels-true r (suc n) (a ∷ args) (Param ∷ ls) strict b t e h =
      let rest = labels-true r (0 + n) args ls strict b t (omega arith) h.1 in
      record { arguments = (h.0, rest.arguments); symbols = rest.symbols; calls = rest.calls }
  labels-true r (suc n) args (Bottom ∷ ls) strict b t e h =
      let all = meanings (below names) (ranks_of G) (all_meanings (below names) G) args ls [] in
      let rest = labels-true r (0 + n) args ls strict b t e (true-join 0 all tt h.1) in
      record { arguments = rest.arguments; symbols = rest.symbols; calls = rest.calls }
  labels-true r (suc n) args (Symbol f ∷ ls) strict b t e h =
      let all = meanings (below names) (ranks_of G) (all_meanings (below names) G) args ls [] in
      let len = (meanings-whole (below names) (ranks_of G) (all_meanings (below names) G) (2 + n) args ls [] t).1 in
      let two : length (take 2 all) ≡ 2 = length-take-le 2 all (omega arith) in
      let one = and-parts (nat_lt f names) (get_or (take 2 all) 0 true && get_or (take 2 all) 1 true) h.0 in
      let kids = and-parts (get_or (take 2 all) 0 true) (get_or (take 2 all) 1 true) one.1 in
      let rest = labels-true r (2 + n) args ls strict b t e (true-join 2 all (true-two (take 2 all) two kids.0 kids.1) h.1) in
      let small : f < names = let lt = one.0 in grind (arith, nat_tests) in
      record { arguments = rest.arguments; symbols = (small, rest.symbols); calls = rest.calls }
  labels-true r (suc n) args (Call q ∷ ls) strict b t e h =
      let all = meanings (below names) (ranks_of G) (all_meanings (below names) G) args ls [] in
      let k = get_or (ranks_of G) q 0 in
      let len = (meanings-whole (below names) (ranks_of G) (all_meanings (below names) G) (k + n) args ls [] t).1 in
      let taken : length (take k all) ≡ rank_at G q = length-take-le k all (omega arith) ∙ rank_at-ranks_of G q in
      let rest = labels-true r (k + n) args ls strict b.1 t e (true-join k all (strict q b.0 (take k all) taken h.0) h.1) in
      record { arguments = rest.arguments; symbols = rest.symbols; calls = ((take k all, taken, h.0), rest.calls) }

  rule-true : (r : ℕ) → r < length G → ((q : ℕ) → q < r → IsStrict q) → (args : List Bool) → length args ≡ rank_at G r → told r args ≡ true → AreTrue args (body_at G r)
  rule-true r there strict args n h =
      let lawful = g.each r there in
      let ms = meanings (below names) (ranks_of G) (all_meanings (below names) G) args (body_at G r) [] in
      let first : get_or ms 0 true ≡ true = sym (memo-at (below names) G g r there args) ∙ h in
      let single = only true ms (meanings-whole (below names) (ranks_of G) (all_meanings (below names) G) 1 args (body_at G r) [] lawful.shaped.term).1 in
      let all : AllTrue ms = subst AllTrue (sym single) (first, tt) in
      labels-true r 1 args (body_at G r) strict lawful.earlier lawful.shaped.term (n ∙ sym lawful.linear) all

  strict-before : (r : ℕ) → r ≤ length G → (q : ℕ) → q < r → IsStrict q
  strict-before zero fits q less args n h = absurd (omega arith)
  strict-before (suc r) fits q less args n h = elim (cases_lt q r) [
    | inl l ↦ strict-before r (omega arith) q l args n h
    | inr other ↦
        let same : r ≡ q = omega arith in
        let here : IsStrict r = λ given m k. (rule-true r (omega arith) (strict-before r (omega arith)) given m k).arguments in
        subst IsStrict same here args n h
  ]

  reached-true : (r : ℕ) → r < length G → (reached : IsReached r) → AreTrue reached.0 (body_at G r)
  reached-true r there (args, n, h) = rule-true r there (strict-before r (omega arith)) args n h

  call-reached : (q : ℕ) (ls : List Label) → 0 < calls_in q ls → CallsReached ls → IsReached q
  call-reached q [] some h = absurd (omega arith)
  call-reached q (Bottom ∷ ls) some h = call-reached q ls some h
  call-reached q (Param ∷ ls) some h = call-reached q ls some h
  call-reached q (Symbol f ∷ ls) some h = call-reached q ls some h
  call-reached q (Call p ∷ ls) some h = by (eqb p q) refl some (λ l. call-reached q ls l h.1)
    where
      by : (test : Bool) → eqb p q ≡ test → 0 < (if test then 1 else 0) + calls_in q ls → (0 < calls_in q ls → IsReached q) → IsReached q
      by true e less others = subst IsReached (eqb-true p q e) h.0
      by false e less others = others (omega arith)

  call-earlier : (q r : ℕ) (ls : List Label) → 0 < calls_in q ls → CallsBelow r ls → q < r
  call-earlier q r [] some h = absurd (omega arith)
  call-earlier q r (Bottom ∷ ls) some h = call-earlier q r ls some h
  call-earlier q r (Param ∷ ls) some h = call-earlier q r ls some h
  call-earlier q r (Symbol f ∷ ls) some h = call-earlier q r ls some h
  call-earlier q r (Call p ∷ ls) some h = by (eqb p q) refl some (λ l. call-earlier q r ls l h.1)
    where
      by : (test : Bool) → eqb p q ≡ test → 0 < (if test then 1 else 0) + calls_in q ls → (0 < calls_in q ls → q < r) → q < r
      by true e less others = omega (arith, eqb-true p q e, h.0)
      by false e less others = others (omega arith)

  -- a rule is the start, or one behind it calls it
  all-reached : (fuel r : ℕ) → IsSwept G → IsReached (length G - 1) → r < length G → length G ≤ fuel + (r + 1) → IsReached r
  all-reached zero r swept start there near = let last : length G - 1 ≡ r = omega arith in subst IsReached last start
  all-reached (suc fuel) r swept start there near = elim (cases_lt (r + 1) (length G)) [
    | inl before ↦
        let c = caller G r (swept r before) in
        let later = call-earlier r c.0 (body_at G c.0) c.2 (g.each c.0 c.1).earlier in
        let up_there = all-reached fuel c.0 swept start c.1 (omega arith) in
        call-reached r (body_at G c.0) c.2 (reached-true c.0 c.1 up_there).calls
    | inr other ↦ let last : length G - 1 ≡ r = omega arith in subst IsReached last start
  ]

named-by : (names : ℕ) (Rs : List Rule) → ((r : ℕ) → r < length Rs → SymbolsBelow names (body_at Rs r)) → AreNamed names Rs
named-by names [] h = tt
named-by names (R ∷ Rs) h = (h 0 (omega arith), named-by names Rs (λ r l. h (suc r) (omega arith)))

coded-named : (G : List Rule) (names : List (Kind × List ℕ)) (ts : Trees) → IsGrammar G → IsSwept G → Codes names ts (value G) → AreNamed (length names) G
coded-named G names ts g swept codes =
    let n = length names in
    let last = length G - 1 in
    let there : last < length G = omega (arith, g.some) in
    let rank : rank_at G last ≡ 0 = (g.each last there).shaped.start (omega arith) in
    let whole : told n G g last [] ≡ true = sym (up-value_at (below n) G last [] (sym rank)) ∙ coded names Leaf ts (value G) refl codes in
    named-by n G (λ r h. (reached-true n G g r h (all-reached n G g (length G) r swept ([], sym rank, whole) h (omega arith))).symbols)

-- such rules, names and texts are those of a file
pub document-file : (bytes : List ℕ) (G : List Rule) (names : List (Kind × List ℕ)) (texts : List (List ℕ)) (t : Tree) → IsGrammar G → IsSwept G → StandsFor G names texts t
    → AreBytesOf bytes names G texts → IsFileOf bytes names G texts
document-file bytes G names texts t g swept stands is = record {
  lawful = record { distinct = stands.distinct; lawful = stands.lawful };
  grammar = record { grammar = g; swept = swept; named = coded-named G names (more t none) g swept stands.code };
  whole = is;
}
