use Rattle.shared_list.proofs.users.Users.is_empty.Goals as goal

pub returns-in-Some-clause-some : goal.returns-in-Some-clause-some
returns-in-Some-clause-some c = λ _.
    let u = c.in-Some.field-0 in
    let is = c.first.ensures.some u c.in-Some.is in
    (u, is.0, is.1)
