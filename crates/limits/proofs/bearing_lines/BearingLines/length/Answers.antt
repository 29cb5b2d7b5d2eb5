use Rattle.std.proofs.Common.{◌≡◌, sum, map, ap, ◌∙◌, arith, rules, of_calls}
use Rattle.std.specs.Slice.Iter.{chunk_by_rest}
use Rattle.std.proofs.iter.Serving.{same}
use Rattle.std.proofs.lemmas.Iterator.{YieldsList-from_map}
use Rattle.std.proofs.lemmas.Iterator.Consumers.{fits_by_from_yields_list, sum_by_from_yields_List}
use Rattle.std.proofs.lemmas.List.Sorted.{answers_always}
use Rattle.parts.specs.Sizes.{diameter_of}
use Rattle.sheet.specs.Details.{details}
use Rattle.sheet.proofs.Joints.{joint_sound}
use Rattle.limits.specs.Bearing.{members, line_of, lines, lengths, bearing_length}
use Rattle.limits.specs.Bounds.{bearing_most}
use Rattle.limits.proofs.Lines.{YieldsList-from_chunks, chunk_in_line, parts_sum, sound_lined}
use Rattle.limits.proofs.bearing_lines.BearingLines.length.Goals as goal

pub sum-requires-clause-can : goal.sum-requires-clause-can
sum-requires-clause-can c =
    let d = details c.args.joint in
    let size : c.diameter-diameter.result ≡ diameter_of d.bolt.size = c.diameter-diameter.ensures ∙ ap (λ b. diameter_of b.size) c.bolt.ensures in
    let rest = ap chunk_by_rest c.map.ensures.source ∙ c.chunk_by.ensures.rest ∙ c.holes.ensures in (
      search of_calls,
      record {
        at = λ xs t q x u y f st.
            let same_diameter = ap (λ p. p.0.now) (same _ (λ p v r k. search rules) xs _ q f ∙ c.map.ensures.closure) in
            let in_line = chunk_in_line d (joint_sound c.args.joint) _ q.0.now (same_diameter ∙ size) _ t u xs x (answers_always _ _ _ (λ f a r f' k. search rules)) rest y st in
            search (rules, in_line);
      },
    )

pub sum-requires-clause-fits : goal.sum-requires-clause-fits
sum-requires-clause-fits c =
    let d = details c.args.joint in
    let n = c.diameter-diameter.result in
    let size : n ≡ diameter_of d.bolt.size = c.diameter-diameter.ensures ∙ ap (λ b. diameter_of b.size) c.bolt.ensures in
    let rest = ap chunk_by_rest c.map.ensures.source ∙ c.chunk_by.ensures.rest ∙ c.holes.ensures in
    fits_by_from_yields_list (λ hs. sum (lengths n (line_of hs))) (map members (lines d.holes)) c.map.result _
    (YieldsList-from_map _ (λ hs. sum (lengths n (line_of hs))) (YieldsList-from_chunks _ d.holes (answers_always _ _ _ (λ f a r f' k. search rules)) rest) c.map.ensures.closure (λ x r q k. search rules))
    (omega (arith, parts_sum n d.holes, ap (λ m. bearing_length m d.holes) size, bearing_most d (joint_sound c.args.joint)))

pub returns-clause-sum : goal.returns-clause-sum
returns-clause-sum c =
    let d = details c.args.joint in
    let n = c.diameter-diameter.result in
    let size : n ≡ diameter_of d.bolt.size = c.diameter-diameter.ensures ∙ ap (λ b. diameter_of b.size) c.bolt.ensures in
    let rest = ap chunk_by_rest c.map.ensures.source ∙ c.chunk_by.ensures.rest ∙ c.holes.ensures in
    sum_by_from_yields_List (λ hs. sum (lengths n (line_of hs))) (map members (lines d.holes)) c.map.result _ c.sum.ensures.ran
    (YieldsList-from_map _ (λ hs. sum (lengths n (line_of hs))) (YieldsList-from_chunks _ d.holes (answers_always _ _ _ (λ f a r f' k. search rules)) rest) c.map.ensures.closure (λ x r q k. search rules))
    ∙ parts_sum n d.holes ∙ ap (λ m. bearing_length m d.holes) size

pub returns-clause-lined : goal.returns-clause-lined
returns-clause-lined c = sound_lined (details c.args.joint) (joint_sound c.args.joint)
