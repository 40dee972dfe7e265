use Rattle.std.proofs.Common.{◌≡◌, ◌∷◌, [], ◌∙◌, ◌+◌, ◌-◌, ap, arith, length, reverse, sym, subst}
use Rattle.std.specs.Prelude.{◌↔◌}
use Rattle.std.proofs.lemmas.Option.{slice_get_within}
use Rattle.slt_grammar.specs.Grammars.{value}
use Rattle.slt_grammar.specs.Keyed.{rules_of}
use Rattle.slt_grammar.specs.Segments.{listed}
use Rattle.slt_grammar.proofs.KeyedLemmas.{length-rules_of}
use Rattle.slt_grammar.proofs.TourWalking.{no_more}
use Rattle.grammar_file.specs.Marks.{Thins, marks, valued}
use Rattle.grammar_file.specs.TextLists.{marks_of, parts_at}
use Rattle.grammar_file.specs.TextWalks.{AreUnfinished, coming}
use Rattle.grammar_file.specs.Unlike.{AreBehind, GoOn}
use Rattle.grammar_file.specs.declared.text_lists.Mark.TheVariants.{Valued, Bare}
use Rattle.grammar_file.proofs.ChainLemmas.{false-true}
use Rattle.grammar_file.proofs.MarkLemmas.{thins-length}
use Rattle.grammar_file.proofs.TextFitting.{fits-bare, fits-end, fits-not, fits-start, fits-thin, fits-valued, iff-over}
use Rattle.grammar_file.proofs.TextWalking.{start-marks, told-next}
use Rattle.grammar_file.proofs.texts_of.walk_texts.Goals as goal

pub marks-init : goal.marks-init
marks-init g c =
    let names = c.args.names.now in
    let rules = c.args.grammar.now.rules in
    let G = rules_of rules in
    let lists = c.in_ok-lists.lists.items in
    let levels = reverse c.in_ok-levels.levels.items in
    let same = c.as_slice.ensures.value in
    let told : coming lists names G levels ≡ marks_of names G (parts_at lists (c.rules.result - 1) 0) =
    subst (λ ls. coming ls names G levels ≡ marks_of names G (parts_at ls (c.rules.result - 1) 0)) same (c.in_ok-levels.ensures.coming names G) in
    let is = told ∙ ap (λ n. marks_of names G (parts_at lists (n - 1) 0)) c.rules.ensures.value in
    let thin : Thins (coming lists names G levels) (marks names (listed (value G) [])) =
    subst (λ ms. Thins ms (marks names (listed (value G) []))) (sym is) (start-marks names G (length rules) lists c.rules.ensures.grammar (sym (length-rules_of rules)) c.in_ok-lists.ensures) in
    let behind : AreBehind c.in_ok-attributes.attributes (length names) 0 = subst (λ n. AreBehind c.in_ok-attributes.attributes n 0) c.len.ensures.value c.in_ok-attributes.ensures in
    record {
      unfinished = subst (λ ls. AreUnfinished ls levels) same c.in_ok-levels.ensures.unfinished;
      within = omega arith;
      behind = behind;
      same = fits-start names c.args.texts.now.texts (listed (value G) []) c.in_ok-attributes.attributes (coming lists names G levels) behind thin;
    }

pub returns-then-not-admit : goal.returns-then-not-admit
returns-then-not-admit g c =
    let names = c.args.names.now in
    let G = rules_of c.args.grammar.now.rules in
    let lists = c.in_ok-lists.lists.items in
    let old = coming lists names G (reverse c.marks.levels.items) in
    let new = coming lists names G (reverse c.next_mark.new.levels.items) in
    let next : Thins (c.in-Some.mark ∷ new) old = told-next names G (length c.args.grammar.now.rules) lists c.as_slice-in-marks.result.now (reverse c.marks.levels.items) (reverse c.next_mark.new.levels.items) c.in_ok-mark.field-0 c.in-Some.mark
    c.as_slice-in-marks.ensures.value c.in_ok-lists.ensures c.in-Some.is c.in_ok-mark.ensures.next in (
      (λ f. absurd (false-true f)),
      (λ x. absurd (c.admit.ensures.no c.if-not-admit.true new ((iff-over c.marks.invariant.same (fits-thin names c.args.texts.now.texts c.marks.at c.marks.attributes (c.in-Some.mark ∷ new) old next)).0 x).going)),
    )

pub returns-then-not-is_text_at : goal.returns-then-not-is_text_at
returns-then-not-is_text_at g c =
    let names = c.args.names.now in
    let G = rules_of c.args.grammar.now.rules in
    let lists = c.in_ok-lists.lists.items in
    let old = coming lists names G (reverse c.marks.levels.items) in
    let new = coming lists names G (reverse c.next_mark.new.levels.items) in
    let next : Thins (c.in-Some.mark ∷ new) old = told-next names G (length c.args.grammar.now.rules) lists c.as_slice-in-marks.result.now (reverse c.marks.levels.items) (reverse c.next_mark.new.levels.items) c.in_ok-mark.field-0 c.in-Some.mark
    c.as_slice-in-marks.ensures.value c.in_ok-lists.ensures c.in-Some.is c.in_ok-mark.ensures.next in
    let here : Thins (Valued c.in-Valued.symbol ∷ new) old = subst (λ m. Thins (m ∷ new) old) c.in-Valued.is next in (
      (λ f. absurd (false-true f)),
      (λ x. absurd (fits-not names c.args.texts.now.texts c.marks.at c.marks.attributes c.in-Valued.symbol new (c.is_text_at.ensures.no c.if-not-is_text_at.true)
          ((iff-over c.marks.invariant.same (fits-thin names c.args.texts.now.texts c.marks.at c.marks.attributes (Valued c.in-Valued.symbol ∷ new) old here)).0 x))),
    )

pub marks-smaller-in-Valued : goal.marks-smaller-in-Valued
marks-smaller-in-Valued g c =
    let names = c.args.names.now in
    let G = rules_of c.args.grammar.now.rules in
    let lists = c.in_ok-lists.lists.items in
    let old = coming lists names G (reverse c.marks.levels.items) in
    let new = coming lists names G (reverse c.next_mark.new.levels.items) in
    let next : Thins (c.in-Some.mark ∷ new) old = told-next names G (length c.args.grammar.now.rules) lists c.as_slice-in-marks.result.now (reverse c.marks.levels.items) (reverse c.next_mark.new.levels.items) c.in_ok-mark.field-0 c.in-Some.mark
    c.as_slice-in-marks.ensures.value c.in_ok-lists.ensures c.in-Some.is c.in_ok-mark.ensures.next in
    thins-length (c.in-Some.mark ∷ new) old next

pub marks-smaller : goal.marks-smaller
marks-smaller g c =
    let names = c.args.names.now in
    let G = rules_of c.args.grammar.now.rules in
    let lists = c.in_ok-lists.lists.items in
    let old = coming lists names G (reverse c.marks.levels.items) in
    let new = coming lists names G (reverse c.next_mark.new.levels.items) in
    let next : Thins (c.in-Some.mark ∷ new) old = told-next names G (length c.args.grammar.now.rules) lists c.as_slice-in-marks.result.now (reverse c.marks.levels.items) (reverse c.next_mark.new.levels.items) c.in_ok-mark.field-0 c.in-Some.mark
    c.as_slice-in-marks.ensures.value c.in_ok-lists.ensures c.in-Some.is c.in_ok-mark.ensures.next in
    thins-length (c.in-Some.mark ∷ new) old next

pub marks-preserved-in-Valued : goal.marks-preserved-in-Valued
marks-preserved-in-Valued g c =
    let names = c.args.names.now in
    let texts = c.args.texts.now.texts in
    let G = rules_of c.args.grammar.now.rules in
    let lists = c.in_ok-lists.lists.items in
    let old = coming lists names G (reverse c.marks.levels.items) in
    let new = coming lists names G (reverse c.next_mark.new.levels.items) in
    let next : Thins (c.in-Some.mark ∷ new) old = told-next names G (length c.args.grammar.now.rules) lists c.as_slice-in-marks.result.now (reverse c.marks.levels.items) (reverse c.next_mark.new.levels.items) c.in_ok-mark.field-0 c.in-Some.mark
    c.as_slice-in-marks.ensures.value c.in_ok-lists.ensures c.in-Some.is c.in_ok-mark.ensures.next in
    let here : Thins (Valued c.in-Valued.symbol ∷ new) old = subst (λ m. Thins (m ∷ new) old) c.in-Valued.is next in
    let text = c.is_text_at.ensures.yes c.if-not-is_text_at.false in
    let lt = slice_get_within texts c.marks.at text.0 text.1 in
    let go : GoOn names c.marks.attributes (Valued c.in-Valued.symbol ∷ new) ↔ GoOn names c.admit.new.self new =
    subst (λ m. GoOn names c.marks.attributes (m ∷ new) ↔ GoOn names c.admit.new.self new) c.in-Valued.is (c.admit.ensures.yes c.if-not-admit.false new) in
    record {
      unfinished = subst (λ ls. AreUnfinished ls (reverse c.next_mark.new.levels.items)) c.as_slice-in-marks.ensures.value c.in_ok-mark.ensures.unfinished;
      within = omega (arith, lt);
      behind = subst (λ m. AreBehind c.admit.new.self (length names) (c.marks.at + length (valued (m ∷ [])))) c.in-Valued.is c.admit.ensures.behind;
      same = iff-over c.marks.invariant.same (iff-over (fits-thin names texts c.marks.at c.marks.attributes (Valued c.in-Valued.symbol ∷ new) old here)
          (fits-valued names texts c.marks.at c.marks.attributes c.admit.new.self c.in-Valued.symbol new text.0 go text.1 text.2));
    }

pub marks-preserved : goal.marks-preserved
marks-preserved g c =
    let names = c.args.names.now in
    let texts = c.args.texts.now.texts in
    let G = rules_of c.args.grammar.now.rules in
    let lists = c.in_ok-lists.lists.items in
    let old = coming lists names G (reverse c.marks.levels.items) in
    let new = coming lists names G (reverse c.next_mark.new.levels.items) in
    let next : Thins (c.in-Some.mark ∷ new) old = told-next names G (length c.args.grammar.now.rules) lists c.as_slice-in-marks.result.now (reverse c.marks.levels.items) (reverse c.next_mark.new.levels.items) c.in_ok-mark.field-0 c.in-Some.mark
    c.as_slice-in-marks.ensures.value c.in_ok-lists.ensures c.in-Some.is c.in_ok-mark.ensures.next in
    let here : Thins (Bare ∷ new) old = subst (λ m. Thins (m ∷ new) old) c.in_default-mark.is next in
    let go : GoOn names c.marks.attributes (Bare ∷ new) ↔ GoOn names c.admit.new.self new =
    subst (λ m. GoOn names c.marks.attributes (m ∷ new) ↔ GoOn names c.admit.new.self new) c.in_default-mark.is (c.admit.ensures.yes c.if-not-admit.false new) in
    let none : c.marks.at + 0 ≡ c.marks.at = omega arith in
    record {
      unfinished = subst (λ ls. AreUnfinished ls (reverse c.next_mark.new.levels.items)) c.as_slice-in-marks.ensures.value c.in_ok-mark.ensures.unfinished;
      within = c.marks.invariant.within;
      behind = subst (AreBehind c.admit.new.self (length names)) none (subst (λ m. AreBehind c.admit.new.self (length names) (c.marks.at + length (valued (m ∷ [])))) c.in_default-mark.is c.admit.ensures.behind);
      same = iff-over c.marks.invariant.same (iff-over (fits-thin names texts c.marks.at c.marks.attributes (Bare ∷ new) old here) (fits-bare names texts c.marks.at c.marks.attributes c.admit.new.self new go));
    }

pub returns : goal.returns
returns g c =
    let names = c.args.names.now in
    let G = rules_of c.args.grammar.now.rules in
    let lists = c.in_ok-lists.lists.items in
    let end = c.in_ok-mark.ensures.end (no_more c.in_ok-mark.field-0 c.in_default.not-Some) in
    let fits = fits-end names c.args.texts.now.texts c.marks.at c.len-count.result c.marks.attributes (coming lists names G (reverse c.marks.levels.items)) (ap (coming lists names G) end) c.marks.invariant.within c.len-count.ensures.value in
    ((λ t. c.marks.invariant.same.1 (fits.0 t)), (λ r. fits.1 (c.marks.invariant.same.0 r)))
