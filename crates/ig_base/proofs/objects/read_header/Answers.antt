use Rattle.std.proofs.Common.{rules, arith, sym, ◌∙◌, refl}
use Rattle.ig_base.proofs.HeaderLemmas.{header_absent, header_present, header_spelled, AreRead}
use Rattle.ig_base.proofs.objects.read_header.Goals as goal

pub returns-in_err-hash-clause-exact : goal.returns-in_err-hash-clause-exact
returns-in_err-hash-clause-exact c = c.from_residual-in_err-hash.ensures ∙ sym (header_absent _ (omega (arith, c.in_err-hash.ensures.none.0 refl)))

pub returns-in_err-length-clause-exact : goal.returns-in_err-length-clause-exact
returns-in_err-length-clause-exact c = c.from_residual-in_err-length.ensures ∙ sym (header_absent _ (omega (arith, c.in_err-length.ensures.none.0 refl)))

pub returns-in_err-schema-clause-exact : goal.returns-in_err-schema-clause-exact
returns-in_err-schema-clause-exact c = c.from_residual-in_err-schema.ensures ∙ sym (header_absent _ (omega (arith, c.in_err-schema.ensures.none.0 refl)))

pub returns-in_err-schema_at-clause-exact : goal.returns-in_err-schema_at-clause-exact
returns-in_err-schema_at-clause-exact c = c.from_residual-in_err-schema_at.ensures ∙ sym (header_absent _ (omega (arith, c.in_err-schema_at.ensures.none.0 refl)))

-- the fields that were read
read : (c : goal.In_ok-schema_at) → AreRead c.args.bytes.now c.in_ok-version.field-0.now c.cast_unsigned-flags.result c.in_ok-get_i16.field-0
    c.in_ok-type_id.type_id c.in_ok-hash.hash c.in_ok-length.length c.in_ok-schema.schema c.in_ok-schema_at.schema_at
read c = record {
  are = search rules;
  version_is = search rules;
  half_is = c.in_ok-get_i16.ensures.exact;
  flags_is = c.cast_unsigned-flags.ensures;
  type_id_is = c.in_ok-type_id.ensures.exact;
  hash_is = c.in_ok-hash.ensures.exact;
  len_is = c.in_ok-length.ensures.exact;
  schema_is = c.in_ok-schema.ensures.exact;
  schema_at_is = c.in_ok-schema_at.ensures.exact;
}

pub returns-clause-exact : goal.returns-clause-exact
returns-clause-exact c = header_present _ _ _ _ _ _ _ _ _ (read c)

pub returns-clause-spelled : goal.returns-clause-spelled
returns-clause-spelled c =
    header_spelled _ _ _ _ _ _ _ _ _ (read c) c.in_ok-get_i16.ensures.spelled c.in_ok-type_id.ensures.spelled c.in_ok-hash.ensures.spelled c.in_ok-length.ensures.spelled
    c.in_ok-schema.ensures.spelled c.in_ok-schema_at.ensures.spelled
