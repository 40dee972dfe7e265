-- Bodies that are read from their ends, label by label, until nothing is left.
use Rattle.std.specs.Prelude.{Bool}
use Rattle.std.proofs.Common.{◌≡◌, ℕ, None, true, false, eqb, zero, suc, ◌+◌, ◌<◌, ◌≤◌, List, [], ◌∷◌, ◌++◌, length, get_or, drop, refl, ap, sym, subst, ◌∙◌, arith, append_assoc, append-nil, length-append}
use Rattle.rule_arena.specs.Preorder.{AreTerms}
use Rattle.rule_arena.specs.declared.label.Label.{Label}
use Rattle.rule_arena.specs.declared.label.Label.TheVariants.{Bottom, Symbol, Call, Param}
use Rattle.slt_grammar.specs.Algebras.{ranks_of}
use Rattle.slt_grammar.specs.Bodies.{arity, CallsBelow, IsTerm}
use Rattle.slt_grammar.specs.Grammars.{body_at}
use Rattle.slt_grammar.specs.declared.digram.Digram.{Digram}
use Rattle.slt_grammar.specs.declared.rules.Rule.{Rule}
use Rattle.border_repair.specs.Cuts.{Cut, IsCutOf, AreCutsOf, AreChosen, HangOver, IsCleanOver, AreCleanOver, AreCalm}
use Rattle.border_repair.specs.Cutting.{Holds, IsRead, CanRead, IsReadOn, CanClose, IsClosed, IsCutOff}
use Rattle.border_repair.specs.Digrams.{is}
use Rattle.border_repair.specs.Edges.{Clean}
use Rattle.border_repair.specs.Splitting.{Piece, IsPiece, ArePieces, Closes, Splits, nothing}
use Rattle.border_repair.specs.declared.cutting.Mark.{Mark}
use Rattle.border_repair.proofs.Hanging.{clean-later, clean-suffix, outside-clean, pieces-calm}
use Rattle.border_repair.proofs.RuleLists.{arity-same}
use Rattle.border_repair.proofs.SizeLemmas.{not-zero}

module _ (ar : Label → ℕ) where
  pub count-same : (i j : ℕ) (ls : List Label) → AreTerms ar i ls → AreTerms ar j ls → i ≡ j
  count-same zero zero [] a b = refl
  count-same zero (suc j) [] a b = absurd b
  count-same (suc i) j [] a b = absurd a
  count-same zero j (l ∷ ls) a b = absurd a
  count-same (suc i) zero (l ∷ ls) a b = absurd b
  count-same (suc i) (suc j) (l ∷ ls) a b = omega (arith, count-same (ar l + i) (ar l + j) ls a b)

  -- what is left of terms is terms
  pub suffix : (n k : ℕ) (ls : List Label) → AreTerms ar n ls → (m : ℕ) × AreTerms ar m (drop k ls)
  suffix n zero ls t = (n, t)
  suffix zero (suc k) [] t = (0, t)
  suffix (suc n) (suc k) [] t = absurd t
  suffix zero (suc k) (l ∷ ls) t = absurd t
  suffix (suc n) (suc k) (l ∷ ls) t = suffix (ar l + n) k ls t

  pub first-arity : (m : ℕ) (l : Label) (ls : List Label) (n : ℕ) → AreTerms ar m (l ∷ ls) → AreTerms ar n ls → ar l ≤ n
  first-arity zero l ls n t u = absurd t
  first-arity (suc m) l ls n t u = let e = count-same (ar l + m) n ls t u in omega arith

pub first-call : (k : ℕ) (l : Label) (ls : List Label) → CallsBelow k (l ∷ ls) → CallsBelow k (l ∷ [])
first-call k Bottom ls c = tt
first-call k (Symbol f) ls c = tt
first-call k (Call q) ls c = (c.0, tt)
first-call k Param ls c = tt

pub other-calls : (k : ℕ) (l : Label) (ls : List Label) → CallsBelow k (l ∷ ls) → CallsBelow k ls
other-calls k Bottom ls c = c
other-calls k (Symbol f) ls c = c
other-calls k (Call q) ls c = c.1
other-calls k Param ls c = c

drop-calls : (k n : ℕ) (ls : List Label) → CallsBelow k ls → CallsBelow k (drop n ls)
drop-calls k zero ls c = c
drop-calls k (suc n) [] c = tt
drop-calls k (suc n) (l ∷ ls) c = drop-calls k n ls (other-calls k l ls c)

calls-more : (k n : ℕ) (l : Label) → k ≤ n → CallsBelow k (l ∷ []) → CallsBelow n (l ∷ [])
calls-more k n Bottom h c = tt
calls-more k n (Symbol f) h c = tt
calls-more k n (Call q) h c = let b : q < k = c.0 in (omega arith, tt)
calls-more k n Param h c = tt

pub terms-same : (G others : List Rule) (n : ℕ) (ls : List Label) → CallsBelow (length G) ls → AreTerms (arity (ranks_of G)) n ls → AreTerms (arity (ranks_of (G ++ others))) n ls
terms-same G others zero [] c t = t
terms-same G others (suc n) [] c t = absurd t
terms-same G others zero (l ∷ ls) c t = absurd t
terms-same G others (suc n) (l ∷ ls) c t =
    subst (λ k. AreTerms (arity (ranks_of (G ++ others))) (k + n) ls) (sym (arity-same G others l (first-call (length G) l ls c))) (terms-same G others (arity (ranks_of G) l + n) ls (other-calls (length G) l ls c) t)

pub drop-at : (ls : List Label) (k : ℕ) (x : Label) → k < length ls → get_or ls k x ≡ x → drop k ls ≡ x ∷ drop (k + 1) ls
drop-at [] k x h e = absurd (omega arith)
drop-at (l ∷ ls) zero x h e = ap (λ y. y ∷ ls) e
drop-at (l ∷ ls) (suc k) x h e = let n : suc (k + 1) ≡ suc k + 1 = omega arith in drop-at ls k x (omega arith) e ∙ ap (λ j. x ∷ drop j (l ∷ ls)) n

-- what is read of a body down to a place
pub record IsReading (d : Digram) (first : List Rule) (body : List Label) (left : ℕ) (rules : List Rule) (marks : List Mark) (parts args : List Label) : Type 0 where
  pub more : List Rule
  pub grown : rules ≡ first ++ more
  pub within : left ≤ length body
  pub read : IsRead d (eqb left 0) rules marks parts args (drop left body)
  pub calm : IsCleanOver d first body → AreCalm d first → AreCalm d rules

pub reading-start : (d : Digram) (rules : List Rule) (body : List Label) (marks : List Mark) (parts args : List Label) → marks ≡ [] → parts ≡ [] → args ≡ [] → IsReading d rules body (length body) rules marks parts args
reading-start d rules body marks parts args m p a =
    let none : drop (length body) body ≡ [] = all_dropped body in
    record {
      more = [];
      grown = sym (append-nil rules);
      within = omega arith;
      read = subst (IsRead d (eqb (length body) 0) rules marks parts args) (sym none) (record {
        pieces = [];
        holds = subst (λ ms. Holds ms parts args []) (sym m) (p, a);
        splits = λ others. nothing;
        are = λ others. tt;
        terms = λ others. tt;
        cuts = [];
        cut = tt;
        chosen = none_chosen (eqb (length body) 0);
        hang = none_hang;
      });
      calm = λ c a. a;
    }
  where
    all_dropped : (ls : List Label) → drop (length ls) ls ≡ []
    all_dropped [] = refl
    all_dropped (l ∷ ls) = all_dropped ls

    none_chosen : (root : Bool) → AreChosen d root []
    none_chosen false = tt
    none_chosen true = tt

    none_hang : HangOver d rules [] []
    none_hang s x [] [] y = tt
    none_hang s x [] (b ∷ bs) y = absurd y
    none_hang s x (c ∷ cs) [] y = absurd y
    none_hang s x (c ∷ cs) (b ∷ bs) y = absurd y

-- the one cut of a body
record IsOneCut (d : Digram) (rules : List Rule) (body : List Label) (piece : Piece) : Type 0 where
  pub cut : Cut
  pub is : IsCutOf piece cut
  pub chosen : AreChosen d true (cut ∷ [])
  pub hang : HangOver d rules body (cut ∷ [])

as-one-cut : (d : Digram) (rules : List Rule) (body : List Label) (piece : Piece) (ks : List Cut) → AreCutsOf (piece ∷ []) ks → AreChosen d true ks → HangOver d rules body ks → IsOneCut d rules body piece
as-one-cut d rules body piece [] o n h = absurd o
as-one-cut d rules body piece (k ∷ []) o n h = record { cut = k; is = o.0; chosen = n; hang = h }
as-one-cut d rules body piece (j ∷ k ∷ ks) o n h = absurd o.1

module _ (d : Digram) (first : List Rule) (body : List Label) (term : IsTerm (ranks_of first) body) (below : CallsBelow (length first) body) where
  module _ (left : ℕ) (rules : List Rule) (marks : List Mark) (parts args : List Label) (r : IsReading d first body (left + 1) rules marks parts args) (label : Label) (here : get_or body left label ≡ label) where
    next : drop left body ≡ label ∷ drop (left + 1) body
    next = drop-at body left label (omega (arith, r.within)) here

    -- what is read so far isn't the root
    abbrev pub read : IsRead d false rules marks parts args (drop (left + 1) body)
    read = subst (λ root. IsRead d root rules marks parts args (drop (left + 1) body)) (not-zero (left + 1) (omega arith)) r.read

    few : length first ≤ length rules
    few = omega (arith, ap length r.grown, length-append first r.more)

    pub is-enough : arity (ranks_of rules) label ≤ length read.pieces
    is-enough =
        let s = suffix (arity (ranks_of first)) 1 left body term in
        let whole = subst (AreTerms (arity (ranks_of first)) s.0) next s.1 in
        let calls = subst (CallsBelow (length first)) next (drop-calls (length first) left body below) in
        let now = subst (λ G. AreTerms (arity (ranks_of G)) s.0 (label ∷ drop (left + 1) body)) (sym r.grown) (terms-same first r.more s.0 (label ∷ drop (left + 1) body) calls whole) in
        first-arity (arity (ranks_of rules)) s.0 label (drop (left + 1) body) (length read.pieces) now (subst (λ G. AreTerms (arity (ranks_of G)) (length read.pieces) (drop (left + 1) body)) (append-nil rules) (read.terms []))

    -- the next label can be read
    abbrev pub can-read : CanRead d rules marks parts args label
    can-read = record { labels = drop (left + 1) body; read = read; enough = is-enough }

    pub call-below : CallsBelow (length rules) (label ∷ [])
    call-below = calls-more (length first) (length rules) label few (first-call (length first) label (drop (left + 1) body) (subst (CallsBelow (length first)) next (drop-calls (length first) left body below)))

    rest-clean : IsCleanOver d first body → AreCleanOver d rules (label ∷ drop (left + 1) body)
    rest-clean c s x =
        let (cs, bs, y) = clean-suffix (is d) s left body (None ∷ []) (true ∷ []) (clean-later d first r.more rules body r.grown c s x None) in
        (cs, bs, subst (Clean (is d) s cs bs) next y)

    pub reading-next : (news : List Rule) (marks_now : List Mark) (parts_now args_now : List Label) → IsReadOn d (eqb left 0) rules news marks_now parts_now args_now (label ∷ drop (left + 1) body) → IsReading d first body left news marks_now parts_now args_now
    reading-next news marks_now parts_now args_now x = record {
      more = r.more ++ x.more;
      grown = x.grown ∙ ap (λ G. G ++ x.more) r.grown ∙ append_assoc first r.more x.more;
      within = omega (arith, r.within);
      read = subst (IsRead d (eqb left 0) news marks_now parts_now args_now) (sym next) x.read;
      calm = λ c a. x.calm (rest-clean c) (r.calm c a);
    }

  module _ (rules : List Rule) (marks : List Mark) (parts args : List Label) (r : IsReading d first body 0 rules marks parts args) where
    pub record IsOne : Type 0 where
      pub piece : Piece
      pub pieces : r.read.pieces ≡ piece ∷ []

    pub is-one : IsOne
    is-one = by_pieces r.read.pieces refl where
      one : length r.read.pieces ≡ 1
      one = count-same (arity (ranks_of rules)) (length r.read.pieces) 1 body (subst (λ G. AreTerms (arity (ranks_of G)) (length r.read.pieces) body) (append-nil rules) (r.read.terms []))
          (subst (λ G. AreTerms (arity (ranks_of G)) 1 body) (sym r.grown) (terms-same first r.more 1 body below term))

      by_pieces : (ps : List Piece) → r.read.pieces ≡ ps → IsOne
      by_pieces [] e = let n : length r.read.pieces ≡ 0 = ap length e in absurd (omega (arith, one))
      by_pieces (p ∷ []) e = record { piece = p; pieces = e }
      by_pieces (p ∷ q ∷ ps) e = let n = ap length e in absurd (omega (arith, one, n))

    -- the last piece can be closed
    abbrev pub can-finish : (end : ℕ) → end ≡ length args → CanClose rules marks parts args end
    can-finish end e = record {
      front = [];
      behind = args;
      args_are = refl;
      ends = e;
      piece = is-one.piece;
      pieces = [];
      holds = subst (Holds marks parts args) is-one.pieces r.read.holds;
      is = λ others. (subst (ArePieces (ranks_of (rules ++ others))) is-one.pieces (r.read.are others)).0;
    }

    pub finished : (news : List Rule) (marks_now : List Mark) (parts_now args_now : List Label) (start : ℕ) → IsClosed rules news marks_now parts_now args_now [] is-one.piece [] start → IsCutOff d first news body args_now
    finished news marks_now parts_now args_now start x = record {
      more = r.more ++ x.more;
      grown = x.grown ∙ ap (λ G. G ++ x.more) r.grown ∙ append_assoc first r.more x.more;
      piece = is-one.piece;
      splits = λ others.
          let moved : rules ++ (x.more ++ others) ≡ news ++ others = sym (append_assoc rules x.more others) ∙ ap (λ G. G ++ others) (sym x.grown) in
          subst (λ G. Splits (ranks_of G) (body_at G) body (is-one.piece ∷ [])) moved (subst (Splits (ranks_of (rules ++ (x.more ++ others))) (body_at (rules ++ (x.more ++ others))) body) is-one.pieces (r.read.splits (x.more ++ others)));
      closes = λ others. subst (Closes (ranks_of (news ++ others)) (body_at (news ++ others)) is-one.piece) (sym (x.args_are ∙ ap (λ z. x.term ++ z) (nothing_behind marks_now parts_now x.behind x.holds) ∙ append-nil x.term)) (x.closes others);
      is = λ others.
          let moved : rules ++ (x.more ++ others) ≡ news ++ others = sym (append_assoc rules x.more others) ∙ ap (λ G. G ++ others) (sym x.grown) in
          subst (λ G. IsPiece (ranks_of G) is-one.piece) moved (subst (ArePieces (ranks_of (rules ++ (x.more ++ others)))) is-one.pieces (r.read.are (x.more ++ others))).0;
      clean = λ c. subst (λ G. IsCleanOver d G args_now) (sym x.grown)
          (outside-clean d rules x.more body args_now is-one.piece one_cut.cut one_cut.is closed one_cut.chosen one_cut.hang (clean-later d first r.more rules body r.grown c));
      calm = λ c a. x.calm d (pieces-calm d rules (is-one.piece ∷ []) (one_cut.cut ∷ []) (one_cut.is, tt) (λ s y. (None ∷ [], true ∷ [], one_cut.hang s y (None ∷ []) (true ∷ []) (clean-later d first r.more rules body r.grown c s y None)))).0 (r.calm c a);
    }
      where
        nothing_behind : (ms : List Mark) (ps xs : List Label) → Holds ms ps xs [] → xs ≡ []
        nothing_behind [] ps xs h = h.1
        nothing_behind (m ∷ ms) ps xs h = absurd h

        one_cut : IsOneCut d rules body is-one.piece
        one_cut = as-one-cut d rules body is-one.piece r.read.cuts (subst (λ ps. AreCutsOf ps r.read.cuts) is-one.pieces r.read.cut) r.read.chosen r.read.hang

        whole_args : args_now ≡ x.term
        whole_args = x.args_are ∙ ap (λ z. x.term ++ z) (nothing_behind marks_now parts_now x.behind x.holds) ∙ append-nil x.term

        closed : Closes (ranks_of (rules ++ x.more)) (body_at (rules ++ x.more)) is-one.piece args_now
        closed = subst (λ G. Closes (ranks_of G) (body_at G) is-one.piece args_now) (append-nil news ∙ x.grown) (subst (Closes (ranks_of (news ++ [])) (body_at (news ++ [])) is-one.piece) (sym whole_args) (x.closes []))
