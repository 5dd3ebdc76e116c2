use Rattle.std.proofs.Common.{◌≡◌, List, map, take, ap, ◌∙◌, take_all, rules}
use Rattle.serde_json.specs.Data.{Data, array, string}
use Rattle.serde_json.specs.{declared.value.Value.the_lemmas, View.view, View.items_of}
use Rattle.serde_json.specs.declared.value.Value.TheVariants as Value
use Rattle.http_messages.proofs.reply_text.names_value.Goals as goal

pub returns : goal.returns
returns c =
    let names = c.args.names.now in
    let all : take c.loop-name.name-index names ≡ names = take_all _ _ c.loop-name-test.false in
    let seen : view (Value.Array c.loop-name.values)
    ≡ array (items_of (map view c.loop-name.values.items)) = search (rules, the_lemmas) in
    seen ∙ ap (λ (ds : List Data). array (items_of ds)) (c.loop-name.invariant ∙ ap (map (λ name. string name)) all)
