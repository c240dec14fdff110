use Rattle.std.proofs.Common.{◌≡◌, ◌∷◌, refl, ap, arith}
use Rattle.json.specs.Token.{Token}
use Rattle.json.specs.Reads.{token_of}
use Rattle.json.specs.Json as json
use Rattle.json.proofs.Grammar.{value_is}
use Rattle.symq_reader.proofs.Entered.{scalar_read}
use Rattle.symq_reader.proofs.stream.entries.rare_entry.Goals as goal

pub returns-in-Null : goal.returns-in-Null
returns-in-Null c =
    let ts = c.args.reader.now in
    let is : token_of c.args.token ≡ Token.null = grind arith in
    scalar_read 121 (token_of c.args.token ∷ ts) ts Token.null json.null (ap (λ t. t ∷ ts) is) (value_is 121 _) refl

pub returns-in-Bool : goal.returns-in-Bool
returns-in-Bool c =
    let ts = c.args.reader.now in
    let flag = Token.boolean c.in-Bool.b in
    let is : token_of c.args.token ≡ flag = grind arith in
    scalar_read 121 (token_of c.args.token ∷ ts) ts flag (json.boolean c.in-Bool.b) (ap (λ t. t ∷ ts) is) (value_is 121 _) refl
