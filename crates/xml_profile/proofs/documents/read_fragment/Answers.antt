use Rattle.std.proofs.Common.{◌≡◌, ◌∙◌, [], ◌∷◌, ◌++◌, ap, subst}
use Rattle.std.specs.Prelude.{Err}
use Rattle.xml_nodes.specs.Machine.{Opened, fragment_start}
use Rattle.xml_profile.specs.Reading.{IsBadList}
use Rattle.std.proofs.lemmas.Result.{err_from_is_err_and}
use Rattle.xml_profile.proofs.FedDocuments.{passed_on}
use Rattle.xml_profile.proofs.FeedLemmas.{never_both}
use Rattle.xml_profile.proofs.Fragments.{breaks_bad_list}
use Rattle.xml_profile.proofs.FragmentReading.{fragment_spelled, fragment_empty}
use Rattle.xml_profile.proofs.documents.read_fragment.Goals as goal
use Rattle.xml_profile.proofs.documents.read_fragment.Goals.{else-ended-via-then-ended+else-not-is_empty, else-ended-via-else-ended}

pub returns-in_err-read_on-clause-bad : goal.returns-in_err-read_on-clause-bad
returns-in_err-read_on-clause-bad c = λ at e.
    let p = err_from_is_err_and c.from_residual-in_err-read_on.result c.from_residual-in_err-read_on.ensures.1 in
    breaks_bad_list c.args.bytes.now at (c.in_err-read_on.ensures.broken at (ap (λ z. Err z) (passed_on p.1 p.2 e)) fragment_start [] [] c.in_ok-reader.ensures.fed)

pub returns-then-not-is_empty-clause-spelled : goal.returns-then-not-is_empty-clause-spelled
returns-then-not-is_empty-clause-spelled c =
    let r = c.in_ok-read_on.ensures.ok fragment_start [] [] c.in_ok-reader.ensures.fed in
    let begun = r.logged ∙ ap (λ z. z ++ r.more) (c.in_ok-open.ensures.log ∙ ap (λ z. z ++ Opened [] ∷ []) c.new-builder.ensures.log) in
    fragment_spelled _ _ _ c.args.bytes.now begun (c.in_ok-ended.ensures.ended c.if-ended.true _ c.args.bytes.now r.stands) c.content-nodes.result c.content-nodes.ensures
    (λ empty. never_both c.is_empty.result (c.is_empty.ensures.1 empty) c.if-not-is_empty.true)

pub returns-clause-bad : goal.returns-clause-bad
returns-clause-bad c = λ at e.
    let r = c.in_ok-read_on.ensures.ok fragment_start [] [] c.in_ok-reader.ensures.fed in
    let begun = r.logged ∙ ap (λ z. z ++ r.more) (c.in_ok-open.ensures.log ∙ ap (λ z. z ++ Opened [] ∷ []) c.new-builder.ensures.log) in
    let same : c.start-start.result ≡ at = cc in
    subst (λ z. IsBadList c.args.bytes.now z) same
    (record {
      none =
          elim c.else-ended.branch [
            | else-ended-via-then-ended+else-not-is_empty w ↦
                fragment_empty _ _ _ c.args.bytes.now begun (c.in_ok-ended.ensures.ended w.if-ended.true _ c.args.bytes.now r.stands) c.content-nodes.result c.content-nodes.ensures
                (w.is_empty.ensures.0 w.if-not-is_empty.false)
            | else-ended-via-else-ended w ↦ c.in_ok-ended.ensures.bad w.if-ended.false _ c.args.bytes.now r.stands
          ];
      place = c.start-start.ensures _ c.args.bytes.now r.stands;
    })
