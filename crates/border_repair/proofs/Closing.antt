-- Pieces that give way to terms.
use Rattle.std.proofs.Common.{◌≡◌, ℕ, List, [], ◌∷◌, ◌++◌, length, get_or, refl, ap, sym, subst, ◌∙◌, arith, append_assoc, append-nil, true, false}
use Rattle.std.proofs.Math.Seq.{get_or-append_seam}
use Rattle.rule_arena.specs.declared.label.Label.{Label}
use Rattle.rule_arena.specs.declared.label.Label.TheVariants.{Call}
use Rattle.slt_grammar.specs.Algebras.{ranks_of}
use Rattle.slt_grammar.specs.Bodies.{params, IsTerm}
use Rattle.slt_grammar.specs.Grammars.{body_at, no_rule}
use Rattle.slt_grammar.specs.declared.rules.Rule.{Rule}
use Rattle.slt_grammar.proofs.RuleMeanings.{rank_at-ranks_of}
use Rattle.slt_grammar.proofs.Substitutions.{joined}
use Rattle.border_repair.specs.Cuts.{IsCalmOver}
use Rattle.border_repair.specs.Cutting.{HoldsFirst, Holds, CanClose, CanCloseKids, IsClosed, HoldsKids, AreClosed}
use Rattle.border_repair.specs.Splitting.{Piece, HasFront, IsPiece, ArePieces, Closes, alone, as_rule, none_closes, one_closes}
use Rattle.border_repair.specs.declared.cutting.Mark.{Mark}
use Rattle.border_repair.proofs.Hanging.{calm-later, calm-more}

-- the rule behind others
pub seam : (G : List Rule) (R : Rule) (others : List Rule) → get_or ((G ++ R ∷ []) ++ others) (length G) no_rule ≡ R
seam G R others = ap (λ H. get_or H (length G) no_rule) (append_assoc G (R ∷ []) others) ∙ get_or-append_seam G R others no_rule

module _ (rules : List Rule) (marks now : List Mark) (parts args : List Label) (end : ℕ) (m : Mark) (w : CanClose rules marks parts args end) (popped : marks ≡ m ∷ now) where
  pub held : Holds (m ∷ now) parts w.behind (w.piece ∷ w.pieces)
  held = subst (λ ms. Holds ms parts w.behind (w.piece ∷ w.pieces)) popped w.holds

  pub first : HoldsFirst m parts w.behind w.piece held.0 held.1
  first = held.2

  -- a piece that is a term alone
  pub closed-bare : (parts_now : List Label) → m.bare ≡ true → parts_now ≡ held.0 → IsClosed rules rules now parts_now args w.front w.piece w.pieces m.args
  closed-bare parts_now b e =
      let t = first.alone b in
      record {
        more = [];
        grown = sym (append-nil rules);
        term = t.0;
        closes = λ others. subst (λ p. Closes (ranks_of (rules ++ others)) (body_at (rules ++ others)) p t.0) (sym t.1) (alone t.0);
        behind = held.1;
        args_are = w.args_are ∙ ap (λ z. w.front ++ z) (first.args_split ∙ ap (λ p. joined p.args ++ held.1) t.1 ∙ ap (λ z. z ++ held.1) (append-nil t.0));
        starts = first.arg;
        holds = subst (λ ps. Holds now ps held.1 w.pieces) (sym e) held.3;
        calm = λ d h a. a;
      }

  -- a part that becomes a rule
  pub closed-part : (R : Rule) (parts_now args_now : List Label) → m.bare ≡ false → R.body ≡ w.piece.part → R.rank ≡ params R.body → parts_now ≡ held.0 → args_now ≡ w.front ++ Call (length rules) ∷ w.behind
      → IsClosed rules (rules ++ R ∷ []) now parts_now args_now w.front w.piece w.pieces m.args
  closed-part R parts_now args_now inner b r e a = record {
    more = R ∷ [];
    grown = refl;
    term = Call (length rules) ∷ joined w.piece.args;
    closes = λ others.
        let H : List Rule = (rules ++ R ∷ []) ++ others in
        let at : get_or H (length rules) no_rule ≡ R = seam rules R others in
        as_rule w.piece (length rules) (ap (λ (S : Rule). S.body) at ∙ b) (rank_at-ranks_of H (length rules) ∙ ap (λ (S : Rule). S.rank) at ∙ r ∙ ap params b)
        (subst (λ G. IsPiece (ranks_of G) w.piece) (sym (append_assoc rules (R ∷ []) others)) (w.is (R ∷ others))) (first.inner inner);
    behind = held.1;
    args_are = a ∙ ap (λ z. w.front ++ Call (length rules) ∷ z) first.args_split;
    starts = first.arg;
    holds = subst (λ ps. Holds now ps held.1 w.pieces) (sym e) held.3;
    calm = λ d h a. calm-more d rules R (subst HasFront (sym b) (first.inner inner)) (λ more. subst (IsTerm (ranks_of (rules ++ R ∷ more))) (sym b) (w.is (R ∷ more)).term) (subst (IsCalmOver d rules) (sym b) h) a;
  }

module _ (rules : List Rule) (marks : List Mark) (parts args : List Label) where
  -- no children
  pub no-kids : (many : ℕ) → many ≡ 0 → (w : HoldsKids marks parts args many) (start : ℕ) → start ≡ length args → AreClosed rules rules marks parts args w.kids w.pieces start
  no-kids many none w start s = by_kids w.kids (w.are_many ∙ none) w.holds where
    by_kids : (kids : List Piece) → length kids ≡ 0 → Holds marks parts args (kids ++ w.pieces) → AreClosed rules rules marks parts args kids w.pieces start
    by_kids [] n h = record { more = []; grown = sym (append-nil rules); terms = []; close = λ others. none_closes; behind = args; args_are = refl; starts = s; holds = h; calm = λ d c a. a }
    by_kids (p ∷ ps) n h = absurd (omega arith)

module _ (rules : List Rule) (marks : List Mark) (parts args : List Label) (many : ℕ) (two : many ≡ 2) (w : CanCloseKids rules marks parts args many) where
  -- two children
  pub record AreTwo : Type 0 where
    pub one : Piece
    pub other : Piece
    pub kids : w.held.kids ≡ one ∷ other ∷ []

  pub are-two : AreTwo
  are-two = by_kids w.held.kids (w.held.are_many ∙ two) refl where
    by_kids : (kids : List Piece) → length kids ≡ 2 → w.held.kids ≡ kids → AreTwo
    by_kids [] n e = absurd (omega arith)
    by_kids (p ∷ []) n e = absurd (omega arith)
    by_kids (p ∷ q ∷ []) n e = record { one = p; other = q; kids = e }
    by_kids (p ∷ q ∷ r ∷ ps) n e = absurd (omega arith)

  -- the first one can be closed
  abbrev pub can-first : (end : ℕ) → end ≡ length args → CanClose rules marks parts args end
  can-first end s = record {
    front = [];
    behind = args;
    args_are = refl;
    ends = s;
    piece = are-two.one;
    pieces = are-two.other ∷ w.held.pieces;
    holds = subst (λ ks. Holds marks parts args (ks ++ w.held.pieces)) are-two.kids w.held.holds;
    is = λ others. (subst (ArePieces (ranks_of (rules ++ others))) are-two.kids (w.are others)).0;
  }

  -- then the second one can be
  module _ (mid : List Rule) (marks_mid : List Mark) (parts_mid args_mid : List Label) (start : ℕ) (x : IsClosed rules mid marks_mid parts_mid args_mid [] are-two.one (are-two.other ∷ w.held.pieces) start) where
    abbrev pub can-second : CanClose mid marks_mid parts_mid args_mid start
    can-second = record {
      front = x.term;
      behind = x.behind;
      args_are = x.args_are;
      ends = x.starts;
      piece = are-two.other;
      pieces = w.held.pieces;
      holds = x.holds;
      is = λ others. subst (λ G. IsPiece (ranks_of G) are-two.other) (sym (append_assoc rules x.more others) ∙ ap (λ G. G ++ others) (sym x.grown)) (subst (ArePieces (ranks_of (rules ++ (x.more ++ others)))) are-two.kids (w.are (x.more ++ others))).1.0;
    }

    pub both-closed : (news : List Rule) (marks_now : List Mark) (parts_now args_now : List Label) (end : ℕ) → IsClosed mid news marks_now parts_now args_now x.term are-two.other w.held.pieces end
        → AreClosed rules news marks_now parts_now args_now w.held.kids w.held.pieces end
    both-closed news marks_now parts_now args_now end y = subst (λ ks. AreClosed rules news marks_now parts_now args_now ks w.held.pieces end) (sym are-two.kids) (record {
      more = x.more ++ y.more;
      grown = y.grown ∙ ap (λ z. z ++ y.more) x.grown ∙ append_assoc rules x.more y.more;
      terms = x.term ∷ y.term ∷ [];
      close = λ others.
          let same : mid ++ (y.more ++ others) ≡ news ++ others = sym (append_assoc mid y.more others) ∙ ap (λ G. G ++ others) (sym y.grown) in
          one_closes are-two.one x.term (are-two.other ∷ []) (y.term ∷ []) (subst (λ G. Closes (ranks_of G) (body_at G) are-two.one x.term) same (x.closes (y.more ++ others)))
          (one_closes are-two.other y.term [] [] (y.closes others) none_closes);
      behind = y.behind;
      args_are = y.args_are ∙ sym (append_assoc x.term (y.term ++ []) y.behind ∙ ap (λ z. x.term ++ (z ++ y.behind)) (append-nil y.term));
      starts = y.starts;
      holds = y.holds;
      calm = λ d h a. y.calm d (calm-later d rules x.more mid are-two.other.part x.grown h.1.0) (x.calm d h.0 a);
    })
