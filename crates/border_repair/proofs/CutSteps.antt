-- Steps of reading a body from its end.
use Rattle.std.proofs.Common.{◌≡◌, ◌≢◌, ℕ, suc, List, [], ◌∷◌, ◌++◌, length, map, refl, ap, sym, subst, ◌∙◌, arith, append_assoc, append-nil, false, true≢false}
use Rattle.rule_arena.specs.declared.label.Label.{Label}
use Rattle.rule_arena.specs.declared.label.Label.TheVariants.{Bottom, Symbol, Call, Param}
use Rattle.slt_grammar.proofs.Substitutions.{joined}
use Rattle.border_repair.specs.Cutting.{front, Holds, HoldsKids}
use Rattle.border_repair.specs.Splitting.{Piece, grown, all_args}
use Rattle.border_repair.specs.declared.cutting.Mark.{Mark}
use Rattle.border_repair.proofs.Split.{joined-append}

abbrev pub parts_of : List Piece → List Label
parts_of kids = joined (map (λ p. p.part) kids)

-- some of the pieces on top were taken off
pub record IsTakenOff (marks : List Mark) (parts args : List Label) (left : ℕ) (now : List Mark) (part arg : ℕ) (kids pieces : List Piece) : Type 0 where
  pub taken : List Piece
  pub rest : List Piece
  pub kids_are : kids ≡ taken ++ rest
  pub many : length rest ≡ left
  pub parts_behind : List Label
  pub args_behind : List Label
  pub parts_are : parts ≡ parts_of taken ++ parts_behind
  pub args_are : args ≡ joined (all_args taken) ++ args_behind
  pub part_is : part ≡ length parts_behind
  pub arg_is : arg ≡ length args_behind
  pub holds : Holds now parts_behind args_behind (rest ++ pieces)

abbrev pub AreTaken : List Mark → List Label → List Label → ℕ → ℕ → List Mark → ℕ → ℕ → Type 0
AreTaken marks parts args kids left now part arg = (w : HoldsKids marks parts args kids) → IsTakenOff marks parts args left now part arg w.kids w.pieces

pub taken-none : (marks : List Mark) (parts args : List Label) (kids part arg : ℕ) → part ≡ length parts → arg ≡ length args → AreTaken marks parts args kids kids marks part arg
taken-none marks parts args kids part arg p a w = record {
  taken = [];
  rest = w.kids;
  kids_are = refl;
  many = w.are_many;
  parts_behind = parts;
  args_behind = args;
  parts_are = refl;
  args_are = refl;
  part_is = p;
  arg_is = a;
  holds = w.holds;
}

joined-args : (xs ys : List Piece) → joined (all_args (xs ++ ys)) ≡ joined (all_args xs) ++ joined (all_args ys)
joined-args [] ys = refl
joined-args (x ∷ xs) ys =
    joined-append x.args (all_args (xs ++ ys)) ∙ ap (λ z. joined x.args ++ z) (joined-args xs ys) ∙ sym (append_assoc (joined x.args) (joined (all_args xs)) (joined (all_args ys)))
    ∙ ap (λ z. z ++ joined (all_args ys)) (sym (joined-append x.args (all_args xs)))

pub parts-append : (xs ys : List Piece) → parts_of (xs ++ ys) ≡ parts_of xs ++ parts_of ys
parts-append [] ys = refl
parts-append (x ∷ xs) ys = ap (λ z. x.part ++ z) (parts-append xs ys) ∙ sym (append_assoc x.part (parts_of xs) (parts_of ys))

pub taken-more : (marks : List Mark) (parts args : List Label) (kids left : ℕ) (now next : List Mark) (m : Mark) (part arg : ℕ) → AreTaken marks parts args kids (suc left) now part arg → now ≡ m ∷ next → AreTaken marks parts args kids left next m.part m.args
taken-more marks parts args kids left now next m part arg before e w = by_rest t.rest t.kids_are t.many t.holds where
  t : IsTakenOff marks parts args (suc left) now part arg w.kids w.pieces
  t = before w

  by_rest : (rest : List Piece) → w.kids ≡ t.taken ++ rest → length rest ≡ suc left → Holds now t.parts_behind t.args_behind (rest ++ w.pieces) → IsTakenOff marks parts args left next m.part m.args w.kids w.pieces
  by_rest [] k n h = absurd (omega arith)
  by_rest (p ∷ rest) k n h =
      let g : Holds (m ∷ next) t.parts_behind t.args_behind (p ∷ (rest ++ w.pieces)) = subst (λ ms. Holds ms t.parts_behind t.args_behind (p ∷ (rest ++ w.pieces))) e h in
      let f = g.2 in
      record {
        taken = t.taken ++ p ∷ [];
        rest = rest;
        kids_are = k ∙ sym (append_assoc t.taken (p ∷ []) rest);
        many = omega arith;
        parts_behind = g.0;
        args_behind = g.1;
        parts_are = t.parts_are ∙ ap (λ z. parts_of t.taken ++ z) (f.parts_split ∙ ap (λ z. z ++ g.0) (sym (append-nil p.part))) ∙ sym (append_assoc (parts_of t.taken) (p.part ++ []) g.0) ∙ ap (λ z. z ++ g.0) (sym (parts-append t.taken (p ∷ [])));
        args_are = t.args_are ∙ ap (λ z. joined (all_args t.taken) ++ z) (f.args_split ∙ ap (λ z. joined z ++ g.1) (sym (append-nil p.args))) ∙ sym (append_assoc (joined (all_args t.taken)) (joined (p.args ++ [])) g.1) ∙ ap (λ z. z ++ g.1) (sym (joined-args t.taken (p ∷ [])));
        part_is = f.part;
        arg_is = f.arg;
        holds = g.3;
      }

pub front-node : (l : Label) (part args : List Label) → l ≢ Param → front (l ∷ part) args ≡ l
front-node Bottom part args n = refl
front-node (Symbol f) part args n = refl
front-node (Call q) part args n = refl
front-node Param part args n = absurd (n refl)

-- a node in one part with its children's parts
pub inner-holds : (marks : List Mark) (parts args : List Label) (kids : ℕ) (now news : List Mark) (m : Mark) (label : Label) (w : HoldsKids marks parts args kids) → AreTaken marks parts args kids 0 now m.part m.args → news ≡ m ∷ now → m.bare ≡ false → label ≢ Param → m.top ≡ label
    → Holds news (label ∷ parts) args (grown label w.kids ∷ w.pieces)
inner-holds marks parts args kids now news m label w taken e b n l = by_rest t.rest t.kids_are t.many t.holds where
  t : IsTakenOff marks parts args 0 now m.part m.args w.kids w.pieces
  t = taken w

  by_rest : (rest : List Piece) → w.kids ≡ t.taken ++ rest → length rest ≡ 0 → Holds now t.parts_behind t.args_behind (rest ++ w.pieces) → Holds news (label ∷ parts) args (grown label w.kids ∷ w.pieces)
  by_rest [] k z h =
      let same : w.kids ≡ t.taken = k ∙ append-nil t.taken in
      subst (λ ms. Holds ms (label ∷ parts) args (grown label w.kids ∷ w.pieces)) (sym e) (
        t.parts_behind,
        t.args_behind,
        record {
          parts_split = ap (λ z. label ∷ z) (t.parts_are ∙ ap (λ ks. parts_of ks ++ t.parts_behind) (sym same));
          args_split = t.args_are ∙ ap (λ ks. joined (all_args ks) ++ t.args_behind) (sym same);
          part = t.part_is;
          arg = t.arg_is;
          alone = λ f. absurd (true≢false (sym f ∙ b));
          inner = λ f. (label, parts_of w.kids, refl, n);
          top = l ∙ sym (front-node label (parts_of w.kids) (joined (all_args w.kids)) n);
        },
        h,
      )
  by_rest (p ∷ rest) k z h = absurd (omega arith)

-- where no mark is left, no child is either
pub taken-stuck : (marks : List Mark) (parts args : List Label) (kids left part arg : ℕ) → AreTaken marks parts args kids (suc left) [] part arg → HoldsKids marks parts args kids → ⊥
taken-stuck marks parts args kids left part arg before w = by_rest t.rest t.many t.holds where
  t : IsTakenOff marks parts args (suc left) [] part arg w.kids w.pieces
  t = before w

  by_rest : (rest : List Piece) → length rest ≡ suc left → Holds [] t.parts_behind t.args_behind (rest ++ w.pieces) → ⊥
  by_rest [] n h = omega arith
  by_rest (p ∷ rest) n h = h
