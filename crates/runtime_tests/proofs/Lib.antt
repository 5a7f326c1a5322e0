mod MayBegin
