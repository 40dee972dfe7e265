-- One more label of a body that is read from its end.
use Rattle.std.proofs.Common.{◌≡◌, ◌≢◌, ◌⊎◌, inl, inr, ℕ, suc, ◌+◌, List, [], ◌∷◌, ◌++◌, length, map, take, drop, refl, ap, sym, subst, ◌∙◌, arith, append_assoc, append-nil, length-append, get_or, true, false, true≢false}
use Rattle.std.specs.Prelude.{Bool}
use Rattle.std.proofs.lemmas.List.{length-map, length-take-le, take-append-drop}
use Rattle.rule_arena.specs.Preorder.{AreTerms}
use Rattle.rule_arena.specs.declared.label.Label.{Label}
use Rattle.rule_arena.specs.declared.label.Label.TheVariants.{Bottom, Symbol, Call, Param}
use Rattle.slt_grammar.specs.Algebras.{ranks_of}
use Rattle.slt_grammar.specs.Bodies.{arity, params, CallsBelow, IsTerm}
use Rattle.slt_grammar.specs.Grammars.{body_at}
use Rattle.slt_grammar.specs.declared.digram.Digram.{Digram}
use Rattle.slt_grammar.specs.declared.rules.Rule.{Rule}
use Rattle.slt_grammar.proofs.Meanings.{params-append}
use Rattle.slt_grammar.proofs.Substitutions.{joined, AllTerms, AreTerms-joined}
use Rattle.border_repair.specs.Cuts.{Cut, parameter, outer, inner, top, part_of, args_of, parts_of, all_args_of, IsCutOf, AreCutsOf, HangOver, AreChosen}
use Rattle.border_repair.specs.Cutting.{front, HoldsFirst, Holds, HasParameterAt, IsRead, CanRead, IsReadOn, HoldsKids, CanCloseKids, AreClosed}
use Rattle.border_repair.specs.Digrams.{IsEnd}
use Rattle.border_repair.specs.Splitting.{Piece, bare, grown, all_args, IsPiece, ArePieces, Closes, alone, as_rule, AllClose, none_closes, one_closes, Splits}
use Rattle.border_repair.specs.Splitting as splitting
use Rattle.border_repair.specs.declared.cutting.Mark.{Mark}
use Rattle.border_repair.proofs.CutSteps.{front-node}
use Rattle.border_repair.proofs.Hanging.{AtPlaces, Exposed, pieces-calm, hang-parameter, hang-inner, hang-outer, kids-somewhere}
use Rattle.border_repair.proofs.RuleLists.{arity-same}
use Rattle.border_repair.proofs.Split.{joined-append}

pub pieces-append : (ranks : List ℕ) (xs ys : List Piece) → ArePieces ranks xs → ArePieces ranks ys → ArePieces ranks (xs ++ ys)
pieces-append ranks [] ys a b = b
pieces-append ranks (x ∷ xs) ys a b = (a.0, pieces-append ranks xs ys a.1 b)

pub first-pieces : (ranks : List ℕ) (xs ys : List Piece) → ArePieces ranks (xs ++ ys) → ArePieces ranks xs
first-pieces ranks [] ys a = tt
first-pieces ranks (x ∷ xs) ys a = (a.0, first-pieces ranks xs ys a.1)

pub other-pieces : (ranks : List ℕ) (xs ys : List Piece) → ArePieces ranks (xs ++ ys) → ArePieces ranks ys
other-pieces ranks [] ys a = a
other-pieces ranks (x ∷ xs) ys a = other-pieces ranks xs ys a.1

module _ (ranks : List ℕ) where
  part-terms : (ps : List Piece) → ArePieces ranks ps → AllTerms ranks (map (λ p. p.part) ps)
  part-terms [] a = tt
  part-terms (p ∷ ps) a = (a.0.term, part-terms ps a.1)

  terms-append : (xs ys : List (List Label)) → AllTerms ranks xs → AllTerms ranks ys → AllTerms ranks (xs ++ ys)
  terms-append [] ys a b = b
  terms-append (x ∷ xs) ys a b = (a.0, terms-append xs ys a.1 b)

  arg-terms : (ps : List Piece) → ArePieces ranks ps → AllTerms ranks (all_args ps)
  arg-terms [] a = tt
  arg-terms (p ∷ ps) a = terms-append p.args (all_args ps) a.0.terms (arg-terms ps a.1)

  arg-count : (ps : List Piece) → ArePieces ranks ps → length (all_args ps) ≡ params (joined (map (λ p. p.part) ps))
  arg-count [] a = refl
  arg-count (p ∷ ps) a = omega (arith, length-append p.args (all_args ps), a.0.enough, arg-count ps a.1, params-append p.part (joined (map (λ q. q.part) ps)))

  params-front : (l : Label) (ls : List Label) → l ≢ Param → params (l ∷ ls) ≡ params ls
  params-front Bottom ls n = refl
  params-front (Symbol f) ls n = refl
  params-front (Call q) ls n = refl
  params-front Param ls n = absurd (n refl)

  node-term : (l : Label) (ts : List (List Label)) → length ts ≡ arity ranks l → AllTerms ranks ts → IsTerm ranks (l ∷ joined ts)
  node-term l ts n a =
      let m : length ts ≡ arity ranks l + 0 = omega arith in
      subst (λ k. AreTerms (arity ranks) k (joined ts)) m (AreTerms-joined ranks ts a)

  -- a node over pieces is a piece
  pub grown-is : (l : Label) (kids : List Piece) → l ≢ Param → length kids ≡ arity ranks l → ArePieces ranks kids → IsPiece ranks (grown l kids)
  grown-is l kids n m a = record {
    term = node-term l (map (λ p. p.part) kids) (length-map kids (λ p. p.part) ∙ m) (part-terms kids a);
    enough = arg-count kids a ∙ sym (params-front l (joined (map (λ p. p.part) kids)) n);
    terms = arg-terms kids a;
  }

  pub closed-term : (bodies : ℕ → List Label) (p : Piece) (t : List Label) → Closes ranks bodies p t → IsPiece ranks p → IsTerm ranks t
  closed-term bodies _ _ (alone t) is = is.terms.0
  closed-term bodies _ _ (as_rule p q b r own front) is = node-term (Call q) p.args (own.enough ∙ sym r) own.terms

  closed-terms : (bodies : ℕ → List Label) (ps : List Piece) (ts : List (List Label)) → AllClose ranks bodies ps ts → ArePieces ranks ps → AllTerms ranks ts
  closed-terms bodies _ _ none_closes a = tt
  closed-terms bodies _ _ (one_closes p t ps ts c more) a = (closed-term bodies p t c a.0, closed-terms bodies ps ts more a.1)

  closed-count : (bodies : ℕ → List Label) (ps : List Piece) (ts : List (List Label)) → AllClose ranks bodies ps ts → length ts ≡ length ps
  closed-count bodies _ _ none_closes = refl
  closed-count bodies _ _ (one_closes p t ps ts c more) = ap suc (closed-count bodies ps ts more)

  pub bare-is : (t : List Label) → IsTerm ranks t → IsPiece ranks (bare t)
  bare-is t a = record { term = tt; enough = refl; terms = (a, tt) }

  -- a node over closed pieces is one, alone
  pub outer-is : (bodies : ℕ → List Label) (l : Label) (kids : List Piece) (ts : List (List Label)) → length kids ≡ arity ranks l → AllClose ranks bodies kids ts → ArePieces ranks kids → IsPiece ranks (bare (l ∷ joined ts))
  outer-is bodies l kids ts m c a = bare-is (l ∷ joined ts) (node-term l ts (closed-count bodies kids ts c ∙ m) (closed-terms bodies kids ts c a))

-- cuts of pieces, in two
pub record CutsParts (ps qs : List Piece) (ks : List Cut) : Type 0 where
  pub kids : List Cut
  pub rest : List Cut
  pub are : ks ≡ kids ++ rest
  pub many : length kids ≡ length ps
  pub kids_cut : AreCutsOf ps kids
  pub rest_cut : AreCutsOf qs rest

cuts-parts : (ps qs : List Piece) (ks : List Cut) → AreCutsOf (ps ++ qs) ks → CutsParts ps qs ks
cuts-parts [] qs ks o = record { kids = []; rest = ks; are = refl; many = refl; kids_cut = tt; rest_cut = o }
cuts-parts (p ∷ ps) qs [] o = absurd o
cuts-parts (p ∷ ps) qs (k ∷ ks) o = let r = cuts-parts ps qs ks o.1 in record { kids = k ∷ r.kids; rest = r.rest; are = ap (λ z. k ∷ z) r.are; many = ap suc r.many; kids_cut = (o.0, r.kids_cut); rest_cut = r.rest_cut }

cut-part : (p : Piece) (k : Cut) → IsCutOf p k → (p.part ≡ part_of k) × (joined p.args ≡ args_of k)
cut-part p parameter o = (ap (λ (z : Piece). z.part) o, ap (λ (z : Piece). joined z.args) o)
cut-part p (outer l t) o = (ap (λ (z : Piece). z.part) o, ap (λ (z : Piece). joined z.args) o ∙ append-nil (l ∷ t))
cut-part p (inner l part args) o = (o.1, o.2)

cut-parts : (ps : List Piece) (ks : List Cut) → AreCutsOf ps ks → (joined (map (λ p. p.part) ps) ≡ parts_of ks) × (joined (all_args ps) ≡ all_args_of ks)
cut-parts [] [] o = (refl, refl)
cut-parts [] (k ∷ ks) o = absurd o
cut-parts (p ∷ ps) [] o = absurd o
cut-parts (p ∷ ps) (k ∷ ks) o =
    let x = cut-part p k o.0 in
    let y = cut-parts ps ks o.1 in
    (ap (λ z. z ++ joined (map (λ q. q.part) ps)) x.0 ∙ ap (λ z. part_of k ++ z) y.0, joined-append p.args (all_args ps) ∙ ap (λ z. z ++ joined (all_args ps)) x.1 ∙ ap (λ z. args_of k ++ z) y.1)

-- a mark has the node at the front of its piece
top-same : (m : Mark) (parts args : List Label) (p : Piece) (parts_behind args_behind : List Label) (k : Cut) → HoldsFirst m parts args p parts_behind args_behind → IsCutOf p k → m.top ≡ top k
top-same m parts args p pb ab parameter f o = f.top ∙ ap (λ (z : Piece). front z.part (joined z.args)) o
top-same m parts args p pb ab (outer l t) f o = f.top ∙ ap (λ (z : Piece). front z.part (joined z.args)) o
top-same m parts args p pb ab (inner l part rest) f o = f.top ∙ ap (λ z. front z (joined p.args)) o.1 ∙ front-node l part (joined p.args) o.0

-- where the mark at a place is no parameter's, neither child is one there
module _ (place : ℕ) where
  no-parameter : (ms : List Mark) (parts args : List Label) (ps : List Piece) (ks : List Cut) → Holds ms parts args ps → AreCutsOf ps ks → (HasParameterAt ms place → ⊥) → AtPlaces (λ i t. place ≡ i → t ≡ Param → ⊥) ks
  no-parameter ms parts args ps [] h o n = tt
  no-parameter ms parts args ps (k ∷ []) h o n = tt
  no-parameter ms parts args [] (j ∷ k ∷ ks) h o n = absurd o
  no-parameter ms parts args (p ∷ []) (j ∷ k ∷ ks) h o n = absurd o.1
  no-parameter [] parts args (p ∷ q ∷ ps) (j ∷ k ∷ ks) h o n = absurd h
  no-parameter (m ∷ []) parts args (p ∷ q ∷ ps) (j ∷ k ∷ ks) h o n = absurd h.3
  no-parameter (m ∷ l ∷ ms) parts args (p ∷ q ∷ ps) (j ∷ k ∷ ks) h o n = (
    λ i t. n (record { before = []; mark = m; behind = l ∷ ms; split = refl; here = sym i; parameter = top-same m parts args p h.0 h.1 j h.2 o.0 ∙ t }),
    λ i t. n (record { before = m ∷ []; mark = l; behind = ms; split = refl; here = sym i; parameter = top-same l h.0 h.1 q h.3.0 h.3.1 k h.3.2 o.1.0 ∙ t }),
  )

  -- and where it is, so is the child
  is-parameter : (ms : List Mark) (parts args : List Label) (ps : List Piece) (ks : List Cut) → Holds ms parts args ps → AreCutsOf ps ks → HasParameterAt ms place → AtPlaces (λ i t. place ≡ i → t ≡ Param) ks
  is-parameter ms parts args ps [] h o n = tt
  is-parameter ms parts args ps (k ∷ []) h o n = tt
  is-parameter ms parts args [] (j ∷ k ∷ ks) h o n = absurd o
  is-parameter ms parts args (p ∷ []) (j ∷ k ∷ ks) h o n = absurd o.1
  is-parameter [] parts args (p ∷ q ∷ ps) (j ∷ k ∷ ks) h o n = absurd h
  is-parameter (m ∷ []) parts args (p ∷ q ∷ ps) (j ∷ k ∷ ks) h o n = absurd h.3
  is-parameter (m ∷ l ∷ ms) parts args (p ∷ q ∷ ps) (j ∷ k ∷ ks) h o n = (
    λ i. sym (top-same m parts args p h.0 h.1 j h.2 o.0) ∙ at_one n.before n.split (n.here ∙ i) ∙ n.parameter,
    λ i. sym (top-same l h.0 h.1 q h.3.0 h.3.1 k h.3.2 o.1.0) ∙ at_two n.before n.split (n.here ∙ i) ∙ n.parameter,
  )
    where
      at_one : (before : List Mark) → m ∷ l ∷ ms ≡ before ++ n.mark ∷ n.behind → suc (length before) ≡ 1 → m.top ≡ n.mark.top
      at_one [] s e = ap (λ zs. (get_or zs 0 m).top) s
      at_one (b ∷ bs) s e = absurd (omega (arith, e))

      at_two : (before : List Mark) → m ∷ l ∷ ms ≡ before ++ n.mark ∷ n.behind → suc (length before) ≡ 2 → l.top ≡ n.mark.top
      at_two [] s e = absurd (omega (arith, e))
      at_two (b ∷ []) s e = ap (λ zs. (get_or zs 1 l).top) s
      at_two (b ∷ c ∷ bs) s e = absurd (omega (arith, e))

first-places : (P : ℕ → Label → Type 0) (js ks : List Cut) → AtPlaces P (js ++ ks) → AtPlaces P js
first-places P [] ks a = tt
first-places P (j ∷ []) ks a = tt
first-places P (i ∷ j ∷ js) ks a = a

with-upper : (u : Type 0) (place : ℕ) (ks : List Cut) → (u → AtPlaces (λ i t. place ≡ i → t ≡ Param → ⊥) ks) → AtPlaces (λ i t. u → place ≡ i → t ≡ Param → ⊥) ks
with-upper u place [] h = tt
with-upper u place (k ∷ []) h = tt
with-upper u place (j ∷ k ∷ ks) h = (λ x. (h x).0, λ x. (h x).1)

chosen-parts : (d : Digram) (js ks : List Cut) → AreChosen d false (js ++ ks) → AreChosen d false js × AreChosen d false ks
chosen-parts d [] ks o = (tt, o)
chosen-parts d (parameter ∷ js) ks o = chosen-parts d js ks o
chosen-parts d (outer l t ∷ js) ks o = let r = chosen-parts d js ks o.1 in ((o.0, r.0), r.1)
chosen-parts d (inner l part args ∷ js) ks o = chosen-parts d js ks o

-- the children of the next node
module _ (d : Digram) (rules : List Rule) (marks : List Mark) (parts args : List Label) (label : Label) (w : CanRead d rules marks parts args label) where
  abbrev pub kids : List Piece
  kids = take (arity (ranks_of rules) label) w.read.pieces

  abbrev pub rest : List Piece
  rest = drop (arity (ranks_of rules) label) w.read.pieces

  pub all-pieces : w.read.pieces ≡ kids ++ rest
  all-pieces = sym (take-append-drop (arity (ranks_of rules) label) w.read.pieces)

  abbrev pub kids_held : (many : ℕ) → arity (ranks_of rules) label ≡ many → HoldsKids marks parts args many
  kids_held many e = record {
    kids = kids;
    pieces = rest;
    are_many = length-take-le (arity (ranks_of rules) label) w.read.pieces w.enough ∙ e;
    holds = subst (Holds marks parts args) all-pieces w.read.holds;
  }

  pub are-all : (others : List Rule) → ArePieces (ranks_of (rules ++ others)) (kids ++ rest)
  are-all others = subst (ArePieces (ranks_of (rules ++ others))) all-pieces (w.read.are others)

  abbrev pub can_close : (many : ℕ) → arity (ranks_of rules) label ≡ many → CanCloseKids rules marks parts args many
  can_close many e = record { held = kids_held many e; are = λ others. first-pieces (ranks_of (rules ++ others)) kids rest (are-all others) }

  all-split : (others : List Rule) → Splits (ranks_of (rules ++ others)) (body_at (rules ++ others)) w.labels (kids ++ rest)
  all-split others = subst (Splits (ranks_of (rules ++ others)) (body_at (rules ++ others)) w.labels) all-pieces (w.read.splits others)

  all-terms : (others : List Rule) → AreTerms (arity (ranks_of (rules ++ others))) (length (kids ++ rest)) w.labels
  all-terms others = subst (λ ps. AreTerms (arity (ranks_of (rules ++ others))) (length ps) w.labels) all-pieces (w.read.terms others)

  cuts : CutsParts kids rest w.read.cuts
  cuts = cuts-parts kids rest w.read.cuts (subst (λ ps. AreCutsOf ps w.read.cuts) all-pieces w.read.cut)

  all-hang : HangOver d rules w.labels (cuts.kids ++ cuts.rest)
  all-hang = subst (HangOver d rules w.labels) cuts.are w.read.hang

  all-chosen : AreChosen d false cuts.kids × AreChosen d false cuts.rest
  all-chosen = chosen-parts d cuts.kids cuts.rest (subst (AreChosen d false) cuts.are w.read.chosen)

  all-cut : AreCutsOf w.read.pieces (cuts.kids ++ cuts.rest)
  all-cut = subst (AreCutsOf w.read.pieces) cuts.are w.read.cut

  many-cuts : length cuts.kids ≡ arity (ranks_of rules) label
  many-cuts = cuts.many ∙ length-take-le (arity (ranks_of rules) label) w.read.pieces w.enough

  module _ (apart : d.upper ≢ d.lower) (root : Bool) (below : CallsBelow (length rules) (label ∷ [])) where
    many-kids : (others : List Rule) → length kids ≡ arity (ranks_of (rules ++ others)) label
    many-kids others = length-take-le (arity (ranks_of rules) label) w.read.pieces w.enough ∙ sym (arity-same rules others label below)

    more-terms : (others : List Rule) → AreTerms (arity (ranks_of (rules ++ others))) (suc (length rest)) (label ∷ w.labels)
    more-terms others = subst (λ n. AreTerms (arity (ranks_of (rules ++ others))) n w.labels) (length-append kids rest ∙ ap (λ n. n + length rest) (many-kids others)) (all-terms others)

    -- a node in one part with its children's
    pub read-inner : (marks_now : List Mark) (parts_now args_now : List Label) → label ≢ Param → (root ≡ true → label ≢ d.lower) → (label ≡ d.upper → HasParameterAt marks d.place → ⊥) → Holds marks_now parts_now args_now (grown label kids ∷ rest)
        → IsReadOn d root rules rules marks_now parts_now args_now (label ∷ w.labels)
    read-inner marks_now parts_now args_now n low kept h = record {
      more = [];
      grown = sym (append-nil rules);
      read = record {
        pieces = grown label kids ∷ rest;
        holds = h;
        splits = λ others. splitting.inner label w.labels kids rest n (many-kids others) (first-pieces (ranks_of (rules ++ others)) kids rest (are-all others)) (all-split others);
        are = λ others. (grown-is (ranks_of (rules ++ others)) label kids n (many-kids others) (first-pieces (ranks_of (rules ++ others)) kids rest (are-all others)), other-pieces (ranks_of (rules ++ others)) kids rest (are-all others));
        terms = more-terms;
        cuts = inner label (parts_of cuts.kids) (all_args_of cuts.kids) ∷ cuts.rest;
        cut = let same = cut-parts kids cuts.kids cuts.kids_cut in ((n, ap (λ z. label ∷ z) same.0, same.1), cuts.rest_cut);
        chosen = by_root root low;
        hang = hang-inner d rules apart label w.labels cuts.kids cuts.rest n below many-cuts all-chosen.0
            (first-places (λ i t. label ≡ d.upper → d.place ≡ i → t ≡ Param → ⊥) cuts.kids cuts.rest
            (with-upper (label ≡ d.upper) d.place (cuts.kids ++ cuts.rest) (λ u. no-parameter d.place marks parts args w.read.pieces (cuts.kids ++ cuts.rest) w.read.holds all-cut (kept u))))
            all-hang;
      };
      calm = λ c a. a;
    }
      where
        by_root : (root : Bool) → (root ≡ true → label ≢ d.lower) → AreChosen d root (inner label (parts_of cuts.kids) (all_args_of cuts.kids) ∷ cuts.rest)
        by_root false low = all-chosen.1
        by_root true low = low refl

    -- a node outside over its closed children
    pub read-outer : (news : List Rule) (marks_mid : List Mark) (parts_mid args_mid : List Label) (start : ℕ) (x : AreClosed rules news marks_mid parts_mid args_mid kids rest start)
        (m : Mark) (marks_now : List Mark) (parts_now args_now : List Label) → IsEnd label → ((label ≡ d.upper) × HasParameterAt marks d.place) ⊎ ((root ≡ true) × (label ≡ d.lower)) → label ≢ Param
        → marks_now ≡ m ∷ marks_mid → m.part ≡ length parts_mid → m.args ≡ start → m.top ≡ label → m.bare ≡ true → parts_now ≡ Param ∷ parts_mid → args_now ≡ label ∷ args_mid
        → IsReadOn d root rules news marks_now parts_now args_now (label ∷ w.labels)
    read-outer news marks_mid parts_mid args_mid start x m marks_now parts_now args_now end exposed n em ep ea et eb eparts eargs =
        let moved : (others : List Rule) → rules ++ (x.more ++ others) ≡ news ++ others = λ others. sym (append_assoc rules x.more others) ∙ ap (λ G. G ++ others) (sym x.grown) in
        let whole : label ∷ args_mid ≡ ((label ∷ joined x.terms) ++ []) ++ x.behind = ap (λ z. label ∷ z) (x.args_are ∙ ap (λ z. z ++ x.behind) (sym (append-nil (joined x.terms)))) in
        record {
          more = x.more;
          grown = x.grown;
          read = record {
            pieces = bare (label ∷ joined x.terms) ∷ rest;
            holds = subst (λ ms. Holds ms parts_now args_now (bare (label ∷ joined x.terms) ∷ rest)) (sym em) (
              parts_mid,
              x.behind,
              record {
                parts_split = eparts;
                args_split = eargs ∙ whole;
                part = ep;
                arg = ea ∙ x.starts;
                alone = λ b. (label ∷ joined x.terms, refl);
                inner = λ b. absurd (true≢false (sym eb ∙ b));
                top = et;
              },
              x.holds,
            );
            splits = λ others. subst (λ G. Splits (ranks_of G) (body_at G) (label ∷ w.labels) (bare (label ∷ joined x.terms) ∷ rest)) (moved others)
                (splitting.outer label w.labels kids rest x.terms n (many-kids (x.more ++ others)) (all-split (x.more ++ others))
                (subst (λ G. AllClose (ranks_of G) (body_at G) kids x.terms) (sym (moved others)) (x.close others)));
            are = λ others. subst (λ G. ArePieces (ranks_of G) (bare (label ∷ joined x.terms) ∷ rest)) (moved others) (
              outer-is (ranks_of (rules ++ (x.more ++ others))) (body_at (rules ++ (x.more ++ others))) label kids x.terms (many-kids (x.more ++ others)) (subst (λ G. AllClose (ranks_of G) (body_at G) kids x.terms) (sym (moved others)) (x.close others))
                  (first-pieces (ranks_of (rules ++ (x.more ++ others))) kids rest (are-all (x.more ++ others))),
              other-pieces (ranks_of (rules ++ (x.more ++ others))) kids rest (are-all (x.more ++ others)),
            );
            terms = λ others. subst (λ G. AreTerms (arity (ranks_of G)) (suc (length rest)) (label ∷ w.labels)) (moved others) (more-terms (x.more ++ others));
            cuts = outer label (joined x.terms) ∷ cuts.rest;
            cut = (refl, cuts.rest_cut);
            chosen = by_root root exposed;
            hang = subst (λ G. HangOver d G (label ∷ w.labels) (outer label (joined x.terms) ∷ cuts.rest)) (sym x.grown)
                (hang-outer d rules apart x.more label w.labels kids cuts.kids cuts.rest x.terms end below many-cuts cuts.kids_cut
                (subst (λ G. AllClose (ranks_of G) (body_at G) kids x.terms) (append-nil news ∙ x.grown) (x.close [])) (as_exposed exposed) all-hang);
          };
          calm = λ c a. x.calm d (pieces-calm d rules kids cuts.kids cuts.kids_cut (kids-somewhere d rules label w.labels below cuts.kids cuts.rest many-cuts all-hang c)) a;
        }
      where
        by_root : (root : Bool) → ((label ≡ d.upper) × HasParameterAt marks d.place) ⊎ ((root ≡ true) × (label ≡ d.lower)) → AreChosen d root (outer label (joined x.terms) ∷ cuts.rest)
        by_root false (inl (u, p)) = (u, all-chosen.1)
        by_root false (inr (r, l)) = absurd (true≢false (sym r))
        by_root true z = tt

        as_exposed : ((label ≡ d.upper) × HasParameterAt marks d.place) ⊎ ((root ≡ true) × (label ≡ d.lower)) → Exposed d rules apart label cuts.kids
        as_exposed (inl (u, p)) = inl (u, first-places (λ i t. d.place ≡ i → t ≡ Param) cuts.kids cuts.rest (is-parameter d.place marks parts args w.read.pieces (cuts.kids ++ cuts.rest) w.read.holds all-cut p))
        as_exposed (inr (r, l)) = inr l

-- a parameter
pub read-parameter : (d : Digram) (root : Bool) (rules : List Rule) (marks : List Mark) (parts args : List Label) (ls : List Label) (r : IsRead d false rules marks parts args ls)
    (m : Mark) (marks_now : List Mark) (parts_now args_now : List Label) → marks_now ≡ m ∷ marks → m.part ≡ length parts → m.args ≡ length args → m.top ≡ Param → m.bare ≡ true → parts_now ≡ Param ∷ parts → args_now ≡ Param ∷ args
    → IsReadOn d root rules rules marks_now parts_now args_now (Param ∷ ls)
read-parameter d root rules marks parts args ls r m marks_now parts_now args_now em ep ea et eb eparts eargs = record {
  more = [];
  grown = sym (append-nil rules);
  read = record {
    pieces = bare (Param ∷ []) ∷ r.pieces;
    holds = subst (λ ms. Holds ms parts_now args_now (bare (Param ∷ []) ∷ r.pieces)) (sym em)
        (parts, args, record { parts_split = eparts; args_split = eargs; part = ep; arg = ea; alone = λ b. (Param ∷ [], refl); inner = λ b. absurd (true≢false (sym eb ∙ b)); top = et }, r.holds);
    splits = λ others. splitting.parameter ls r.pieces (r.splits others);
    are = λ others. (bare-is (ranks_of (rules ++ others)) (Param ∷ []) tt, r.are others);
    terms = λ others. subst (λ n. AreTerms (arity (ranks_of (rules ++ others))) n ls) (sym (zero-plus (length r.pieces))) (r.terms others);
    cuts = parameter ∷ r.cuts;
    cut = (refl, r.cut);
    chosen = by_root root;
    hang = hang-parameter d rules ls r.cuts r.hang;
  };
  calm = λ c a. a;
}
  where
    by_root : (root : Bool) → AreChosen d root (parameter ∷ r.cuts)
    by_root false = r.chosen
    by_root true = tt

    zero-plus : (n : ℕ) → 0 + n ≡ n
    zero-plus n = omega arith

pub end-arity : (ranks others : List ℕ) (l : Label) → IsEnd l → arity ranks l ≡ arity others l
end-arity ranks others l (inl (f, e)) = ap (arity ranks) e ∙ sym (ap (arity others) e)
end-arity ranks others l (inr e) = ap (arity ranks) e ∙ sym (ap (arity others) e)
