use Rattle.std.proofs.Common.{ℕ, ◌==◌, List, ◌++◌, encode_utf8_all, string_bytes, ◌∙◌, ap, sym, map-id, append-nil, append_assoc}
use Rattle.std.specs.List.{flat_map, list_any}
use Rattle.std.proofs.lemmas.Grind.{flat_map-append}
use Rattle.std.proofs.lemmas.Iterator.{YieldsList-from_chars}
use Rattle.std.proofs.lemmas.Iterator.Consumers.{YieldsList-end}
use Rattle.std.proofs.lemmas.Str.{encodes-append}
use Rattle.symbols_table.proofs.Escapes.{unescaped}
use Rattle.symbols_table.specs.QualifiedNames.{char_with_quote_escaped}
use Rattle.symbols_table.proofs.info.qualified_name.push_all_escaped.Goals as goal

pub loop-c-preserved : goal.loop-c-preserved
loop-c-preserved c =
    rw (flat_map-append, encodes-append, append-nil (char_with_quote_escaped c.in-Some.c))
    (c.in_ok-push_escaped.ensures ∙ (ap (λ made. made ++ encode_utf8_all (char_with_quote_escaped c.in-Some.c)) c.loop-c.invariant
    ∙ append_assoc (string_bytes c.args.made.now) (encode_utf8_all (flat_map char_with_quote_escaped c.loop-c.yielded))
    (encode_utf8_all (char_with_quote_escaped c.in-Some.c))))

pub returns-then-not-contains : goal.returns-then-not-contains
returns-then-not-contains c =
    let none = sym (ap (list_any (λ b. b == 34)) c.as_bytes.ensures.value) ∙ (sym c.contains.ensures.value ∙ c.if-not-contains.true) in
    c.in_ok-push_str.ensures.bytes ∙ ap (λ (t : List ℕ). string_bytes c.args.made.now ++ t) (unescaped c.args.text.now c.utf8.text none)

pub returns : goal.returns
returns c =
    let done = YieldsList-end (YieldsList-from_chars c.args.text.now c.utf8.text cc) c.loop-c.yielded _ c.loop-c.yielded_by _ _ c.in-None.is
    c.next.ensures.steps in
    c.loop-c.invariant ∙ ap (λ cs. string_bytes c.args.made.now ++ encode_utf8_all (flat_map char_with_quote_escaped cs))
    (sym (map-id c.loop-c.yielded) ∙ done.0)
