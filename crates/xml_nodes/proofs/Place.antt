-- The start of the token that is held is the place of bad XML.
use Rattle.std.proofs.Common.{◌≡◌, ◌≢◌, ℕ, ◌+◌, ◌-◌, ◌≤◌, Bool, true, false, List, [], ◌∷◌, ◌++◌, length, take, drop, refl, ap, sym, ◌∙◌, subst, ◌⊎◌, inl, inr, append_assoc, length-append, arith}
use Rattle.std.specs.Prelude.{Some, ◌==◌, ◌&&◌, not}
use Rattle.std.specs.List.{list_all, flat_map, AllByRecursion}
use Rattle.std.proofs.lemmas.Bool.Decides.{nat_tests}
use Rattle.std.proofs.lemmas.List.{take-append-drop, length-take}
use Rattle.std.proofs.Math.Seq.{take-append_seam, take-append-add}
use Rattle.std.proofs.lemmas.List.Folds.{list_all-append}
use Rattle.plain_tree.specs.Tree.{Tree}
use Rattle.xml_tokenizer.specs.declared.scan.Scan.{Scan}
use Rattle.xml_tokenizer.specs.declared.scan.Scan.TheVariants as at
use Rattle.xml_tokenizer.specs.declared.scan.Step.{Step}
use Rattle.xml_tokenizer.specs.declared.scan.Step.TheVariants.{On, Whole, Dead}
use Rattle.xml_nodes.proofs.Steps.{steps-append}
use Rattle.xml_nodes.proofs.Documents.{document_leads}
use Rattle.xml_nodes.proofs.Grammar.{leads-document}
use Rattle.xml_nodes.proofs.LineEnds.{tag_stays, gives_byte}
use Rattle.xml_nodes.proofs.Fed.{goes_on, cut_further, refused, held_goes_on}
use Rattle.xml_nodes.proofs.Endings.{is_safe, never_whole, over_ending}
use Rattle.xml_nodes.proofs.NameBytes.{names_are_safe}
use Rattle.xml_nodes.proofs.Live.{IsNamed, start_lives, steps_live, live_leads_out}
use Rattle.plain_tree.specs.Lawful.{IsName, has_no_return}
use Rattle.xml_tokenizer.specs.LineEnds.{line_ends, line_ends_after, ends_in_return, begins_dropped, line_end_of}
use Rattle.xml_nodes.specs.Stands.{StandsFrom, Refuses}
use Rattle.xml_tokens.specs.Tokens.{Token, Character, Reference, Section, Start, Empty, End, Comment, Instruction, Declaration, Doctype, AreTokens, IsToken}
use Rattle.xml_nodes.specs.Content.{AreDocument}
use Rattle.xml_nodes.specs.Machine.{State, Event, steps, then_on, calls_before, start, end, events}
use Rattle.xml_tokenizer.specs.Scanning.{scanned, scan_step}
use Rattle.xml_nodes.specs.Spelling.{Spells}
use Rattle.xml_nodes.specs.Place.{ending_tag, IsEnding, IsOpen, IsPlace, IsGreatest}
use Rattle.xml_nodes.proofs.CharacterLemmas.{and_true}
use Rattle.xml_tokenizer.proofs.LineEndLaws.{line_ends-append, kept_byte}
use Rattle.xml_tokenizer.proofs.Cuts.{tokens_more, tokens_then}

-- a scan that has begun isn't idle
abbrev pub is_idle : Step → Bool
is_idle (On at.Idle) = true
is_idle (On at.One) = false
is_idle (On at.Two) = false
is_idle (On at.Three) = false
is_idle (On at.Reference) = false
is_idle (On at.Open) = false
is_idle (On at.Tag) = false
is_idle (On at.Double) = false
is_idle (On at.Single) = false
is_idle (On at.Bang) = false
is_idle (On at.Dash) = false
is_idle (On at.Comment) = false
is_idle (On at.CommentDash) = false
is_idle (On at.CommentEnd) = false
is_idle (On at.Section) = false
is_idle (On at.Bracket) = false
is_idle (On at.Brackets) = false
is_idle (On at.Doctype) = false
is_idle (On at.DoctypeDouble) = false
is_idle (On at.DoctypeSingle) = false
is_idle (On at.Instruction) = false
is_idle (On at.InstructionEnd) = false
is_idle Whole = false
is_idle Dead = false

pub step_begun : (s : Scan) (c : ℕ) → is_idle (scan_step s c) ≡ false
step_begun at.Idle c = grind (arith, nat_tests)
step_begun at.One c = grind (arith, nat_tests)
step_begun at.Two c = grind (arith, nat_tests)
step_begun at.Three c = grind (arith, nat_tests)
step_begun at.Reference c = grind (arith, nat_tests)
step_begun at.Open c = grind (arith, nat_tests)
step_begun at.Tag c = grind (arith, nat_tests)
step_begun at.Double c = grind (arith, nat_tests)
step_begun at.Single c = grind (arith, nat_tests)
step_begun at.Bang c = grind (arith, nat_tests)
step_begun at.Dash c = grind (arith, nat_tests)
step_begun at.Comment c = grind (arith, nat_tests)
step_begun at.CommentDash c = grind (arith, nat_tests)
step_begun at.CommentEnd c = grind (arith, nat_tests)
step_begun at.Section c = grind (arith, nat_tests)
step_begun at.Bracket c = grind (arith, nat_tests)
step_begun at.Brackets c = grind (arith, nat_tests)
step_begun at.Doctype c = grind (arith, nat_tests)
step_begun at.DoctypeDouble c = grind (arith, nat_tests)
step_begun at.DoctypeSingle c = grind (arith, nat_tests)
step_begun at.Instruction c = grind (arith, nat_tests)
step_begun at.InstructionEnd c = grind (arith, nat_tests)

scan_begun : (s : Step) (x : List ℕ) → is_idle s ≡ false → is_idle (scanned s x) ≡ false
scan_begun s [] e = e
scan_begun (On t) (c ∷ x) e = scan_begun (scan_step t c) x (step_begun t c)
scan_begun Whole (c ∷ x) e = refl
scan_begun Dead (c ∷ x) e = refl

pub begun : (c : ℕ) (x : List ℕ) (t : Scan) → scanned (On at.Idle) (c ∷ x) ≡ On t → t ≢ at.Idle
begun c x t e f =
    let no = scan_begun (scan_step at.Idle c) x (step_begun at.Idle c) in
    let yes_idle : is_idle (scanned (scan_step at.Idle c) x) ≡ true = ap is_idle (e ∙ ap (λ z. On z) f) in
    cc

-- an end has no #xD
pub safe_no_return : (x : List ℕ) → list_all is_safe x ≡ true → has_no_return x ≡ true
safe_no_return [] e = refl
safe_no_return (c ∷ x) e =
    let both = and_true (is_safe c) (list_all is_safe x) e in
    rw (safe_byte c both.0, safe_no_return x both.1) refl where
      safe_byte : (c : ℕ) → is_safe c ≡ true → (c == 13) ≡ false
      safe_byte c e = grind (arith, nat_tests)

append_no_return : (x y : List ℕ) → has_no_return x ≡ true → has_no_return y ≡ true → has_no_return (x ++ y) ≡ true
append_no_return x y e f = list_all-append (λ c. not (c == 13)) x y ∙ rw (e, f) refl

tag_no_return : (name : List ℕ) → IsName name → has_no_return (47 ∷ (name ++ 32 ∷ 62 ∷ [])) ≡ true
tag_no_return name n = append_no_return name (32 ∷ 62 ∷ []) (safe_no_return name (names_are_safe name n)) refl

tags_no_return : (names : List (List ℕ)) → AllByRecursion IsName names → has_no_return (flat_map ending_tag names) ≡ true
tags_no_return [] all = refl
tags_no_return (n ∷ names) all = append_no_return (ending_tag n) (flat_map ending_tag names) (tag_no_return n all.0) (tags_no_return names all.1)

ending_stays : (b : Bool) (e : List ℕ) → IsEnding e → line_ends_after b e ≡ e
ending_stays b e (inl is) = subst (λ z. line_ends_after b z ≡ z) (sym is) refl
ending_stays b e (inr (inl is)) = subst (λ z. line_ends_after b z ≡ z) (sym is) (tag_stays b (97 ∷ 47 ∷ 62 ∷ []) refl)
ending_stays b e (inr (inr ([], all, is))) = subst (λ z. line_ends_after b z ≡ z) (sym is) refl
ending_stays b e (inr (inr (n ∷ names, all, is))) =
    subst (λ z. line_ends_after b z ≡ z) (sym is)
    (tag_stays b ((47 ∷ (n ++ 32 ∷ 62 ∷ [])) ++ flat_map ending_tag names)
    (append_no_return (47 ∷ (n ++ 32 ∷ 62 ∷ [])) (flat_map ending_tag names) (tag_no_return n all.0) (tags_no_return names all.1)))

-- behind x an end stays as it is
pub ended_lines : (x e : List ℕ) → IsEnding e → line_ends (x ++ e) ≡ line_ends x ++ e
ended_lines x e is = line_ends-append x e false ∙ ap (λ z. line_ends x ++ z) (ending_stays (ends_in_return false x) e is)

-- a front of x ++ y
pub front_is : (a b x y : List ℕ) → a ++ b ≡ x ++ y → ((z : List ℕ) × (x ≡ a ++ z)) ⊎ ((c : ℕ) × (z : List ℕ) × (a ≡ x ++ c ∷ z) × (y ≡ c ∷ (z ++ b)))
front_is [] b x y e = inl (x, refl)
front_is (c ∷ a) b [] y e = inr (c, a, refl, sym e)
front_is (c ∷ a) b (d ∷ x) y e = more (front_is a b x y (cc)) where
  more : ((z : List ℕ) × (x ≡ a ++ z)) ⊎ ((c : ℕ) × (z : List ℕ) × (a ≡ x ++ c ∷ z) × (y ≡ c ∷ (z ++ b)))
      → ((z : List ℕ) × (d ∷ x ≡ (c ∷ a) ++ z)) ⊎ ((k : ℕ) × (z : List ℕ) × (c ∷ a ≡ (d ∷ x) ++ k ∷ z) × (y ≡ k ∷ (z ++ b)))
  more (inl (z, f)) = inl (z, cc)
  more (inr (k, z, f, g)) = inr (k, z, cc, g)

-- at is where P holds, and further on it doesn't
pub greatest_at : (P : List ℕ → Type 0) (front rest : List ℕ) → P front → ((x y : List ℕ) (c : ℕ) → rest ≡ (c ∷ x) ++ y → P (front ++ c ∷ x) → ⊥) → IsGreatest P (front ++ rest) (length front)
greatest_at P front rest can closed = record {
  within = omega (arith, length-append front rest);
  holds = subst P (sym (take-append_seam front rest)) can;
  greatest = λ k below within may.
      let n = k - length front in
      let is : k ≡ length front + n = omega arith in
      let some : 1 ≤ length (take n rest) = omega (arith, length-take n rest, length-append front rest) in
      by_front (take n rest) (drop n rest) some (sym (take-append-drop n rest))
      (subst P (ap (λ z. take z (front ++ rest)) is ∙ take-append-add front rest n) may);
} where
  by_front : (x y : List ℕ) → 1 ≤ length x → rest ≡ x ++ y → P (front ++ x) → ⊥
  by_front [] y some e may = absurd (omega arith)
  by_front (c ∷ x) y some e may = closed x y c e may

-- What is read: whole tokens, which lead from a state, and tokens that lead from there can be ended to be whole.
module _ (from : State) (IsWhole : List Token → Type 0) (leads : (ts : List Token) → IsWhole ts → (r : State) × (es : List Event) × (steps from ts ≡ Some (r, es))) where
  -- the bytes can be ended
  pub record CanEnd (bytes : List ℕ) : Type 0 where
    pub end : List ℕ
    pub ending : IsEnding end
    pub tokens : List Token
    pub cut : AreTokens tokens (line_ends (bytes ++ end)) []
    pub whole : IsWhole tokens

  -- not where one more token has begun
  begun_closed : (front raw : List ℕ) (ts : List Token) (k : ℕ) (held : List ℕ) (scan : Scan) → AreTokens ts (line_ends front) []
      → line_ends_after (ends_in_return false front) raw ≡ k ∷ held → scanned (On at.Idle) (k ∷ held) ≡ On scan → CanEnd (front ++ raw) → ⊥
  begun_closed front raw ts k held scan cut rest h may =
      let e = may.end in
      let lines : line_ends ((front ++ raw) ++ e) ≡ line_ends front ++ ((k ∷ held) ++ e) =
      ended_lines (front ++ raw) e may.ending
      ∙ ap (λ z. z ++ e) (line_ends-append front raw false ∙ ap (λ z. line_ends front ++ z) rest)
      ∙ append_assoc (line_ends front) (k ∷ held) e in
      let p = cut_further ts may.tokens (line_ends front) [] ((k ∷ held) ++ e) cut
      (subst (λ z. AreTokens may.tokens z []) lines may.cut) in
      let over = (held_goes_on p.0 k held e scan h p.2).1 in
      never_whole (On scan) e over.over over.after (over_ending names_are_safe scan e (begun k held scan h) may.ending) over.rest over.ends

  -- nor where a byte is refused, whatever follows it
  pub refused_never_whole : (front raw held next : List ℕ) (scan : Scan) (now : State) (log : List Event) (c : ℕ) → StandsFrom from front raw held scan now log
      → (ends_in_return false (front ++ raw) && (c == 10)) ≡ false → Refuses held scan now (line_end_of c)
      → (ts : List Token) → AreTokens ts (line_ends ((front ++ raw) ++ c ∷ next)) [] → IsWhole ts → ⊥
  refused_never_whole front raw held next scan now log c s kept r ts cut whole =
      let fed : line_ends (front ++ raw) ≡ line_ends front ++ held = line_ends-append front raw false ∙ ap (λ z. line_ends front ++ z) (sym s.read.rest) in
      let lines : line_ends ((front ++ raw) ++ c ∷ next) ≡ (line_ends front ++ held) ++ line_end_of c ∷ line_ends_after (c == 13) next =
      line_ends-append (front ++ raw) (c ∷ next) false ∙ ap (λ z. z ++ line_ends_after (ends_in_return false (front ++ raw)) (c ∷ next)) fed
      ∙ ap (λ z. (line_ends front ++ held) ++ z) (kept_byte (ends_in_return false (front ++ raw)) c next kept) in
      let l = leads ts whole in
      refused from s.tokens ts (line_ends front ++ held) held (line_ends_after (c == 13) next) scan now l.0 log l.1 (line_end_of c)
      (tokens_more s.tokens (line_ends front) [] held s.read.cut) s.read.waits s.stepped r
      (subst (λ z. AreTokens ts z []) lines cut) l.2

  -- no front of the bytes held can be ended
  front_closed : (front raw held : List ℕ) (scan : Scan) (now : State) (log : List Event) (c : ℕ) (x y : List ℕ) → StandsFrom from front raw held scan now log
      → raw ≡ (c ∷ x) ++ y → CanEnd (front ++ c ∷ x) → ⊥
  front_closed front raw held scan now log c x y s e may =
      let cr = ends_in_return false front in
      let kept = subst (λ z. begins_dropped cr z ≡ false) e s.read.kept in
      let g = gives_byte cr c x kept in
      let whole : (g.first ∷ g.others) ++ line_ends_after (ends_in_return cr (c ∷ x)) y ≡ held =
      ap (λ z. z ++ line_ends_after (ends_in_return cr (c ∷ x)) y) (sym g.are) ∙ sym (line_ends-append (c ∷ x) y cr) ∙ ap (λ z. line_ends_after cr z) (sym e) ∙ sym s.read.rest in
      let on = goes_on (g.first ∷ g.others) (line_ends_after (ends_in_return cr (c ∷ x)) y) (On at.Idle) scan (ap (λ z. scanned (On at.Idle) z) whole ∙ s.read.waits) in
      begun_closed front (c ∷ x) s.tokens g.first g.others on.0 s.read.cut g.are on.1 may

  module _ (P : List ℕ → Type 0) (ends : (bytes : List ℕ) → P bytes → CanEnd bytes) (front : List ℕ) (can : P front) where
    -- the bytes break off: at is where the token begins that they hold, or their end
    pub broken_off_at : (raw held : List ℕ) (scan : Scan) (now : State) (log : List Event) → StandsFrom from front raw held scan now log → IsGreatest P (front ++ raw) (length front)
    broken_off_at raw held scan now log s =
        greatest_at P front raw can (λ x y c e may. front_closed front raw held scan now log c x y s e (ends (front ++ c ∷ x) may))

    -- a byte is refused: at is where the token begins that it stands in, whatever follows it
    pub refused_from : (raw held : List ℕ) (scan : Scan) (now : State) (log : List Event) (c : ℕ) (next : List ℕ) → StandsFrom from front raw held scan now log
        → (ends_in_return false (front ++ raw) && (c == 10)) ≡ false → Refuses held scan now (line_end_of c) → IsGreatest P ((front ++ raw) ++ c ∷ next) (length front)
    refused_from raw held scan now log c next s kept r =
        subst (λ z. IsGreatest P z (length front)) (sym (append_assoc front raw (c ∷ next)))
        (greatest_at P front (raw ++ c ∷ next) can
        (λ x y d e may. by_front d x y e (front_is (d ∷ x) y raw (c ∷ next) (sym e)) (ends (front ++ d ∷ x) may))) where
          by_front : (d : ℕ) (x y : List ℕ) → raw ++ c ∷ next ≡ (d ∷ x) ++ y
              → ((z : List ℕ) × (raw ≡ (d ∷ x) ++ z)) ⊎ ((k : ℕ) × (z : List ℕ) × (d ∷ x ≡ raw ++ k ∷ z) × (c ∷ next ≡ k ∷ (z ++ y))) → CanEnd (front ++ d ∷ x) → ⊥
          by_front d x y e (inl (z, f)) may = front_closed front raw held scan now log d x z s f may
          by_front d x y e (inr (k, z, f, g)) may =
              let heads : k ≡ c = cc in
              let end = may.end in
              let shape : (front ++ d ∷ x) ++ end ≡ (front ++ raw) ++ c ∷ (z ++ end) =
              ap (λ w. (front ++ w) ++ end) (f ∙ ap (λ w. raw ++ w ∷ z) heads) ∙ ap (λ w. w ++ end) (sym (append_assoc front raw (c ∷ z))) ∙ append_assoc (front ++ raw) (c ∷ z) end in
              refused_never_whole front raw held (z ++ end) scan now log c s kept r may.tokens (subst (λ w. AreTokens may.tokens (line_ends w) []) shape may.cut) may.whole

token_named : (t : Token) (text : List ℕ) → IsToken t text → IsNamed t
token_named (Start n attrs) text is = is.named
token_named (Character c) text is = tt
token_named (Reference c) text is = tt
token_named (Section v) text is = tt
token_named (Empty n attrs) text is = tt
token_named (End n) text is = tt
token_named (Comment v) text is = tt
token_named (Instruction n v) text is = tt
token_named Declaration text is = tt
token_named Doctype text is = tt

cut_named : (ts : List Token) (bytes after : List ℕ) → AreTokens ts bytes after → AllByRecursion IsNamed ts
cut_named [] bytes after a = tt
cut_named (t ∷ ts) bytes after a = (token_named t a.0 a.2, cut_named ts a.1 after a.4)

-- whole tokens that lead somewhere can be ended
whole_open : (front : List ℕ) (ts : List Token) (now : State) (log : List Event) → AreTokens ts (line_ends front) [] → steps start ts ≡ Some (now, log) → IsOpen front
whole_open front ts now log cut e =
    let out = live_leads_out now (steps_live ts start now log start_lives (cut_named ts (line_ends front) [] cut) e) in
    let leads : steps start (ts ++ out.tokens) ≡ Some (out.last, log ++ out.calls) =
    steps-append ts out.tokens start ∙ ap (λ z. then_on z (λ s. steps s out.tokens)) e ∙ ap (λ z. calls_before log z) out.leads in
    let d = leads-document (ts ++ out.tokens) out.last (log ++ out.calls) leads out.ended in (
      out.bytes,
      d.tree,
      out.ending,
      record {
        tokens = ts ++ out.tokens;
        cut = subst (λ z. AreTokens (ts ++ out.tokens) z []) (sym (ended_lines front out.bytes out.ending))
            (tokens_then ts out.tokens (line_ends front ++ out.bytes) out.bytes [] (tokens_more ts (line_ends front) [] out.bytes cut) out.cut);
        document = d.are;
      },
    )

-- a document
leads_of : (ts : List Token) → (t : Tree) × AreDocument ts t → (r : State) × (es : List Event) × (steps start ts ≡ Some (r, es))
leads_of ts d = (end, events d.0 [], document_leads ts d.0 d.1)

can_end : (bytes : List ℕ) → IsOpen bytes → CanEnd start (λ ts. (t : Tree) × AreDocument ts t) leads_of bytes
can_end bytes (e, t, is, s) = record { end = e; ending = is; tokens = s.tokens; cut = s.cut; whole = (t, s.document) }

pub broken_off : (front raw held : List ℕ) (scan : Scan) (now : State) (log : List Event) → StandsFrom start front raw held scan now log
    → IsPlace (front ++ raw) (length front)
broken_off front raw held scan now log s =
    broken_off_at start (λ ts. (t : Tree) × AreDocument ts t) leads_of IsOpen can_end front (whole_open front s.tokens now log s.read.cut s.stepped) raw held scan now log s

pub refused_at : (front raw held : List ℕ) (scan : Scan) (now : State) (log : List Event) (c : ℕ) (next : List ℕ) → StandsFrom start front raw held scan now log
    → (ends_in_return false (front ++ raw) && (c == 10)) ≡ false → Refuses held scan now (line_end_of c) → IsPlace ((front ++ raw) ++ c ∷ next) (length front)
refused_at front raw held scan now log c next s kept r =
    refused_from start (λ ts. (t : Tree) × AreDocument ts t) leads_of IsOpen can_end front (whole_open front s.tokens now log s.read.cut s.stepped) raw held scan now log c
    next s kept r

pub refused_spells_nothing : (front raw held next : List ℕ) (scan : Scan) (now : State) (log : List Event) (c : ℕ) → StandsFrom start front raw held scan now log
    → (ends_in_return false (front ++ raw) && (c == 10)) ≡ false → Refuses held scan now (line_end_of c) → (t : Tree) → Spells ((front ++ raw) ++ c ∷ next) t → ⊥
refused_spells_nothing front raw held next scan now log c s kept r t p =
    refused_never_whole start (λ ts. (t : Tree) × AreDocument ts t) leads_of front raw held next scan now log c s kept r p.tokens p.cut (t, p.document)
