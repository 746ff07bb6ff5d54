use Rattle.history.proofs.Lawfulness.{law}
use Rattle.history.proofs.law.law_holds.Goals as goal

pub returns : goal.returns
returns g c =
    let S = g.met.S.Summary in
    let T = g.met.T.Setting in
    law g.S.Summary.kind g.T.Setting.kind
    (record {
      some_width = S.some_width;
      within_limit = S.within_limit;
      packed_is_wide = S.packed_is_wide;
      packed_is_bytes = S.packed_is_bytes;
      listed_are_named = S.listed_are_named;
      none_from_none = S.none_from_none;
    })
    (record {
      some_width = T.some_width;
      within_limit = T.within_limit;
      form_is_wide = T.form_is_wide;
      form_is_bytes = T.form_is_bytes;
      form_reads = T.form_reads;
      only_forms_read = T.only_forms_read;
    })
